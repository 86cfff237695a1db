-- Parts of statements that are read are in the grammar, and those in the grammar are read.
use Rattle.std.proofs.Common.{◌≡◌, ℕ, false, List, refl}
use Rattle.task_ast.specs.declared.tree.Ann.TheVariants as ann
use Rattle.task_ast.specs.declared.tree.Target.TheVariants as target
use Rattle.task_ast.specs.declared.tree.Place.TheVariants as place
use Rattle.task_tokens.specs.declared.token.Keyword.TheVariants as keyword
use Rattle.task_tokens.specs.declared.token.Sign.TheVariants as sign
use Rattle.task_tokens.specs.declared.token.Token.{Token}
use Rattle.task_text.specs.Forms.{AreAll}
use Rattle.task_text.specs.Grammar.{IsIndex, IsTarget, IsAddress, IsPlace, IsAnn, IsArgument, IsTest, IsStart, IsBound, IsStep, IsHead}
use Rattle.task_text.specs.Reading.{begins_sign, begins_reserved}
use Rattle.task_text.specs.ReadingStmt.{index_at, target_of, target_at, address_of, address_at, place_at, timely_at, ann_at, argument_at, arguments_at, test_at, start_at, bound_at, step_at, head_at}
use Rattle.task_text.proofs.Offs.{IsSound}
use Rattle.task_text.proofs.Items.{Takes}
use Rattle.task_text.proofs.Many.{Beginnings, item-takes}
use Rattle.task_text.proofs.ExprSound.{value-sound}
use Rattle.task_text.proofs.ExprComplete.{NoOperator, value-complete}
use Rattle.task_text.proofs.Chain.{word-sound, mark-sound, named-sound, numbered-sound, zero-sound, same-sound, done-sound, chain-sound, enclosed-sound, many-sound, either-sound}
use Rattle.task_text.proofs.Starts.{IsReadBefore, word-starts, mark-starts, then-starts, enclosed-starts, named-starts, either-starts}
use Rattle.task_text.proofs.Complete.{Any, NoMore, word-complete, mark-complete, named-complete, numbered-complete, zero-complete, same-complete, done-complete, chain-complete, enclosed-complete, choose-complete, optional-complete, items-complete}

-- ---- what is read is in the grammar

index-sound : IsSound IsIndex index_at
index-sound = enclosed-sound sign.BracketOpen sign.BracketClose value-sound

pub target-sound : IsSound IsTarget target_at
unfolding target_at target_of
target-sound = chain-sound named-sound (λ x. either-sound (begins_sign sign.BracketOpen) (chain-sound index-sound (λ i. done-sound (target.Element x i))) (done-sound (target.Scalar x)))

pub address-sound : IsSound IsAddress address_at
unfolding address_at address_of
address-sound = chain-sound named-sound (λ x. either-sound (begins_sign sign.BracketOpen) (chain-sound index-sound (λ i. done-sound (place.Element x i))) (done-sound (place.Scalar x)))

pub place-sound : IsSound IsPlace place_at
unfolding place_at
place-sound = either-sound (begins_sign sign.Ampersand) (chain-sound (mark-sound sign.Ampersand) (λ _. address-sound)) (chain-sound named-sound (λ x. done-sound (place.Bare x)))

pub ann-sound : IsSound IsAnn ann_at
unfolding ann_at timely_at
ann-sound =
    either-sound (begins_reserved keyword.Single) (chain-sound (word-sound keyword.Single) (λ _. done-sound ann.Single))
    (either-sound (begins_reserved keyword.Always) (chain-sound (word-sound keyword.Always) (λ _. done-sound ann.Always))
    (chain-sound (word-sound keyword.Timely) (λ _. chain-sound (enclosed-sound sign.ParenOpen sign.ParenClose numbered-sound) (λ n. done-sound (ann.Timely n.value)))))

argument-sound : IsSound IsArgument argument_at
unfolding argument_at
argument-sound = chain-sound (mark-sound sign.Comma) (λ _. value-sound)

pub arguments-sound : IsSound (AreAll IsArgument) arguments_at
arguments-sound = many-sound (begins_sign sign.Comma) argument-sound

pub test-sound : IsSound IsTest test_at
unfolding test_at
test-sound = chain-sound (word-sound keyword.If) (λ _. enclosed-sound sign.ParenOpen sign.ParenClose value-sound)

start-sound : IsSound IsStart start_at
unfolding start_at
start-sound =
    chain-sound (word-sound keyword.For) (λ w. chain-sound (mark-sound sign.ParenOpen) (λ _. chain-sound named-sound (λ i. chain-sound (mark-sound sign.Equal) (λ _. chain-sound zero-sound (λ _. chain-sound (mark-sound sign.Semicolon) (λ _. done-sound _))))))

bound-sound : (text : List ℕ) → IsSound (IsBound text) (bound_at text)
unfolding bound_at
bound-sound text = chain-sound (same-sound text) (λ _. chain-sound (mark-sound sign.Less) (λ _. chain-sound numbered-sound (λ n. chain-sound (mark-sound sign.Semicolon) (λ _. done-sound n))))

step-sound : (text : List ℕ) → IsSound (IsStep text) (step_at text)
unfolding step_at
step-sound text = chain-sound (same-sound text) (λ _. chain-sound (mark-sound sign.PlusPlus) (λ _. mark-sound sign.ParenClose))

pub head-sound : IsSound IsHead head_at
unfolding head_at
head-sound = chain-sound start-sound (λ s. chain-sound (bound-sound s.variable.text) (λ n. chain-sound (step-sound s.variable.text) (λ _. done-sound _)))

-- ---- what is in the grammar is read

-- no index goes on here
abbrev pub NoIndex : List Token → Type 0
NoIndex rest = begins_sign sign.BracketOpen rest ≡ false

index-complete : {F : List Token → Type 0} → IsReadBefore F IsIndex index_at
index-complete = enclosed-complete sign.BracketOpen sign.BracketClose value-complete (λ at us. (refl, refl))

pub target-complete : IsReadBefore NoIndex IsTarget target_at
unfolding target_at target_of
target-complete = chain-complete named-complete (λ x. optional-complete (begins_sign sign.BracketOpen) (then-starts (enclosed-starts (λ at us. refl))) (λ rest safe. safe) (chain-complete index-complete (λ i. done-complete (target.Element x i))))

pub address-complete : IsReadBefore NoIndex IsAddress address_at
unfolding address_at address_of
address-complete = chain-complete named-complete (λ x. optional-complete (begins_sign sign.BracketOpen) (then-starts (enclosed-starts (λ at us. refl))) (λ rest safe. safe) (chain-complete index-complete (λ i. done-complete (place.Element x i))))

pub place-complete : IsReadBefore NoIndex IsPlace place_at
unfolding place_at
place-complete =
    choose-complete (begins_sign sign.Ampersand) (then-starts (mark-starts (λ at us. refl))) (then-starts (named-starts (λ x us. refl))) (chain-complete (mark-complete sign.Ampersand) (λ _. address-complete))
    (chain-complete named-complete (λ x. done-complete (place.Bare x)))

pub ann-complete : {F : List Token → Type 0} → IsReadBefore F IsAnn ann_at
unfolding ann_at timely_at
ann-complete =
    choose-complete (begins_reserved keyword.Single) (then-starts (word-starts (λ at us. refl))) (either-starts (then-starts (word-starts (λ at us. refl))) (then-starts (word-starts (λ at us. refl)))) (chain-complete (word-complete keyword.Single) (λ _. done-complete ann.Single))
    (choose-complete (begins_reserved keyword.Always) (then-starts (word-starts (λ at us. refl))) (then-starts (word-starts (λ at us. refl))) (chain-complete (word-complete keyword.Always) (λ _. done-complete ann.Always))
    (chain-complete (word-complete keyword.Timely) (λ _. chain-complete (enclosed-complete {G = Any} sign.ParenOpen sign.ParenClose numbered-complete (λ at us. tt)) (λ n. done-complete (ann.Timely n.value)))))

arguments : Beginnings NoOperator IsArgument (begins_sign sign.Comma)
arguments = record { starts = then-starts (mark-starts (λ at us. refl)); safe = then-starts (mark-starts (λ at us. (refl, refl))); ends = refl }

pub argument-takes : Takes argument_at
argument-takes = item-takes arguments argument-sound

argument-complete : IsReadBefore NoOperator IsArgument argument_at
unfolding argument_at
argument-complete = chain-complete (mark-complete sign.Comma) (λ _. value-complete)

pub arguments-complete : IsReadBefore (NoMore NoOperator (begins_sign sign.Comma)) (AreAll IsArgument) arguments_at
arguments-complete = items-complete arguments argument-complete

pub test-complete : {F : List Token → Type 0} → IsReadBefore F IsTest test_at
unfolding test_at
test-complete = chain-complete (word-complete keyword.If) (λ _. enclosed-complete sign.ParenOpen sign.ParenClose value-complete (λ at us. (refl, refl)))

start-complete : {F : List Token → Type 0} → IsReadBefore F IsStart start_at
unfolding start_at
start-complete =
    chain-complete (word-complete keyword.For) (λ w. chain-complete (mark-complete sign.ParenOpen) (λ _. chain-complete named-complete (λ i. chain-complete (mark-complete sign.Equal) (λ _. chain-complete zero-complete (λ _. chain-complete (mark-complete sign.Semicolon) (λ _. done-complete _))))))

bound-complete : {F : List Token → Type 0} (text : List ℕ) → IsReadBefore F (IsBound text) (bound_at text)
unfolding bound_at
bound-complete text = chain-complete (same-complete text) (λ _. chain-complete (mark-complete sign.Less) (λ _. chain-complete numbered-complete (λ n. chain-complete (mark-complete sign.Semicolon) (λ _. done-complete n))))

step-complete : {F : List Token → Type 0} (text : List ℕ) → IsReadBefore F (IsStep text) (step_at text)
unfolding step_at
step-complete text = chain-complete (same-complete text) (λ _. chain-complete (mark-complete sign.PlusPlus) (λ _. mark-complete sign.ParenClose))

pub head-complete : {F : List Token → Type 0} → IsReadBefore F IsHead head_at
unfolding head_at
head-complete = chain-complete start-complete (λ s. chain-complete (bound-complete s.variable.text) (λ n. chain-complete (step-complete s.variable.text) (λ _. done-complete _)))
