-- An issue's name and arguments are read as what they spell, and from nothing else.
use Rattle.std.specs.Prelude.{◌==◌, ◌||◌, codes, decimal, map, if◌then◌else◌}
use Rattle.std.specs.List.{flat_map, join_with_byte, list_all}
use Rattle.std.specs.Option.{is_some}
use Rattle.std.specs.Str.{bytes_eq}
use Rattle.std.proofs.Common.{All, ◌≡◌, ◌∙◌, inl, inr, ℕ, suc, ◌+◌, ◌<◌, ◌≤◌, Bool, true, false, List, [], ◌∷◌, ◌++◌, length, Option, Some, None, refl, sym, ap, subst, append_assoc, append-nil, arith}
use Rattle.std.proofs.lemmas.Bool.{and_parts, or_right, false_from_ne_true, false≢true, eqb-true}
use Rattle.std.proofs.lemmas.List.{length-append}
use Rattle.std.proofs.lemmas.List.Elements.{All-cons, All-tail}
use Rattle.std.proofs.lemmas.Slice.Eq.{bytes_eq-Decides}
use Rattle.devices.specs.Journal.{arguments_of}
use Rattle.devices.specs.declared.event.Args.{Args}
use Rattle.power_trace.specs.Report.{number, issue_text}
use Rattle.power_trace.specs.Short.{IsWord}
use Rattle.report_text.proofs.PartLemmas.{AllShown, IsShown, word_shown, decimal_word, name_word}
use Rattle.report_text.proofs.WordLemmas.{number_of_digits, digits_of_number}
use Rattle.report_text.specs.Grammar.{IsIssued, AreArgs, args_of}
use Rattle.report_text.specs.Reading.{◌>>=◌, number_in, one_in, issue_in, issue_named, issued_in, issued_name, is_numbered, one_more, no_args}
use Rattle.report_text.specs.declared.line.LineText.{LineText}
use Rattle.report_text.specs.declared.line.LineText.TheVariants.{Issue}
use Rattle.task_ast.specs.NameToken.{is_name, is_word_byte}

-- the words of arguments and the reading behind them
abbrev pub issued_words : List ℕ → (reading : ℕ) → List (List ℕ)
issued_words values reading = map decimal values ++ codes "=" ∷ decimal reading ∷ []

arguments_joined : (name : List ℕ) (values : List ℕ) (reading : ℕ) → join_with_byte 32 (name ∷ issued_words values reading) ≡ name ++ (flat_map number values ++ (codes " =" ++ number reading))
arguments_joined name [] reading = refl
arguments_joined name (a ∷ values) reading =
    ap (λ x. name ++ (32 ∷ x)) (arguments_joined (decimal a) values reading)
    ∙ ap (λ x. name ++ x) (sym (append_assoc (number a) (flat_map number values) (codes " =" ++ number reading)))

parts_joined : (n name args last : List ℕ) → codes "issue" ++ (32 ∷ (n ++ (32 ∷ (name ++ (args ++ (codes " =" ++ last)))))) ≡ codes "issue" ++ (32 ∷ n) ++ codes " " ++ name ++ args ++ codes " =" ++ last
parts_joined n name args last =
    sym (append_assoc (codes "issue") (32 ∷ n) (32 ∷ (name ++ (args ++ (codes " =" ++ last)))))
    ∙ sym (append_assoc (codes "issue" ++ (32 ∷ n)) (codes " ") (name ++ (args ++ (codes " =" ++ last))))
    ∙ sym (append_assoc (codes "issue" ++ (32 ∷ n) ++ codes " ") name (args ++ (codes " =" ++ last)))
    ∙ sym (append_assoc (codes "issue" ++ (32 ∷ n) ++ codes " " ++ name) args (codes " =" ++ last))
    ∙ sym (append_assoc (codes "issue" ++ (32 ∷ n) ++ codes " " ++ name ++ args) (codes " =") last)

-- the words of an issue, with a space between any two, are its text
pub issue_spelled : (site : ℕ) (name : List ℕ) (values : List ℕ) (reading : ℕ)
    → codes "issue" ++ (32 ∷ (decimal site ++ (32 ∷ join_with_byte 32 (name ∷ issued_words values reading)))) ≡ issue_text (record { name = name; number = 0 } ∷ []) site 0 values reading
issue_spelled site name values reading =
    ap (λ x. codes "issue" ++ (32 ∷ (decimal site ++ (32 ∷ x)))) (arguments_joined name values reading)
    ∙ parts_joined (decimal site) name (flat_map number values) (number reading)

-- at most four values are those of their arguments
pub values_are : (values : List ℕ) → length values ≤ 4 → arguments_of (args_of values) ≡ values
values_are [] few = refl
values_are (a ∷ []) few = refl
values_are (a ∷ b ∷ []) few = refl
values_are (a ∷ b ∷ c ∷ []) few = refl
values_are (a ∷ b ∷ c ∷ d ∷ []) few = refl
values_are (a ∷ b ∷ c ∷ d ∷ e ∷ values) few = absurd (omega (arith, few))

more_whole : (values : List ℕ) (n : ℕ) → length values < 4 → one_more (args_of values) n ≡ Some (args_of (values ++ n ∷ []))
more_whole [] n few = refl
more_whole (a ∷ []) n few = refl
more_whole (a ∷ b ∷ []) n few = refl
more_whole (a ∷ b ∷ c ∷ []) n few = refl
more_whole (a ∷ b ∷ c ∷ d ∷ values) n few = absurd (omega (arith, few))

same_some : {A : Type 0} (x y : A) → Some x ≡ Some y → x ≡ y
same_some x y e = cc

more_found : (values : List ℕ) (n : ℕ) (args : Args) → one_more (args_of values) n ≡ Some args → (length (values ++ n ∷ []) ≤ 4) × (args ≡ args_of (values ++ n ∷ []))
more_found [] n args e = (omega arith, sym (same_some _ args e))
more_found (a ∷ []) n args e = (omega arith, sym (same_some _ args e))
more_found (a ∷ b ∷ []) n args e = (omega arith, sym (same_some _ args e))
more_found (a ∷ b ∷ c ∷ []) n args e = (omega arith, sym (same_some _ args e))
more_found (a ∷ b ∷ c ∷ d ∷ values) n args e = cc

then_found : {A B : Type 0} (o : Option A) (f : A → Option B) (y : B) → (o >>= f) ≡ Some y → (x : A) × (o ≡ Some x) × (f x ≡ Some y)
then_found None f y e = cc
then_found (Some x) f y e = (x, refl, e)

last_found : (words : List (List ℕ)) (n : ℕ) → one_in words ≡ Some n → IsWord n × (words ≡ decimal n ∷ [])
last_found [] n e = cc
last_found (w ∷ []) n e = let d = digits_of_number n w e in (d.0, ap (λ v. v ∷ []) d.1)
last_found (w ∷ v ∷ ws) n e = cc

-- what arguments behind others are read from
record Issued (values : List ℕ) (words : List (List ℕ)) (p : Args × ℕ) : Type 0 where
  more : List ℕ
  reading : ℕ
  few : length (values ++ more) ≤ 4
  are : All IsWord more
  word : IsWord reading
  spelled : words ≡ issued_words more reading
  same : p ≡ (args_of (values ++ more), reading)

none_more : All IsWord []
none_more = λ k d within. absurd (omega (arith, within))

issued_last : (values : List ℕ) (w : List ℕ) (words : List (List ℕ)) (p : Args × ℕ) → length values ≤ 4 → w ≡ codes "=" → (one_in words >>= (λ r. Some (args_of values, r))) ≡ Some p → Issued values (w ∷ words) p
issued_last values w words p few sign e =
    let r = then_found (one_in words) (λ r. Some (args_of values, r)) p e in
    let f = last_found words r.0 r.1 in
    record {
      more = [];
      reading = r.0;
      few = omega (arith, few, ap (λ (vs : List ℕ). length vs) (append-nil values));
      are = none_more;
      word = f.0;
      spelled = λ i. sign i ∷ f.1 i;
      same = sym (same_some _ p r.2) ∙ ap (λ vs. (args_of vs, r.0)) (sym (append-nil values));
    }

issued_more : (values : List ℕ) (w : List ℕ) (words : List (List ℕ)) (p : Args × ℕ) (n : ℕ) → IsWord n → w ≡ decimal n → Issued (values ++ n ∷ []) words p → Issued values (w ∷ words) p
issued_more values w words p n small spelled rest = record {
  more = n ∷ rest.more;
  reading = rest.reading;
  few = omega (arith, rest.few, ap (λ (vs : List ℕ). length vs) (append_assoc values (n ∷ []) rest.more));
  are = All-cons IsWord n rest.more small rest.are;
  word = rest.word;
  spelled = λ i. spelled i ∷ rest.spelled i;
  same = rest.same ∙ ap (λ vs. (args_of vs, rest.reading)) (append_assoc values (n ∷ []) rest.more);
}

issued_found : (words : List (List ℕ)) (values : List ℕ) (p : Args × ℕ) → length values ≤ 4 → issued_in (args_of values) words ≡ Some p → Issued values words p
issued_found [] values p few e = cc
issued_found (w ∷ words) values p few e = by (bytes_eq w (codes "=")) refl e (issued_found words)
  where
    by : (t : Bool) → bytes_eq w (codes "=") ≡ t
        → (if t then one_in words >>= (λ r. Some (args_of values, r)) else number_in w >>= (λ n. one_more (args_of values) n >>= (λ args. issued_in args words))) ≡ Some p
        → ((vs : List ℕ) (q : Args × ℕ) → length vs ≤ 4 → issued_in (args_of vs) words ≡ Some q → Issued vs words q) → Issued values (w ∷ words) p
    by true is e rest = issued_last values w words p few ((bytes_eq-Decides w (codes "=")).0 is) e
    by false is e rest =
        let n = then_found (number_in w) (λ n. one_more (args_of values) n >>= (λ args. issued_in args words)) p e in
        let a = then_found (one_more (args_of values) n.0) (λ args. issued_in args words) p n.2 in
        let m = more_found values n.0 a.0 a.1 in
        let d = digits_of_number n.0 w n.1 in
        issued_more values w words p n.0 d.0 d.1 (rest (values ++ n.0 ∷ []) p m.0 (ap (λ args. issued_in args words) (sym m.1) ∙ a.2))

no_sign : (n : ℕ) → IsWord n → bytes_eq (decimal n) (codes "=") ≡ false
no_sign n small = false_from_ne_true (bytes_eq (decimal n) (codes "="))
    (λ is. false≢true (sym (ap (list_all is_word_byte) ((bytes_eq-Decides (decimal n) (codes "=")).0 is)) ∙ decimal_word n small))

issued_whole : (more values : List ℕ) (reading : ℕ) → length (values ++ more) ≤ 4 → All IsWord more → IsWord reading → issued_in (args_of values) (issued_words more reading) ≡ Some (args_of (values ++ more), reading)
issued_whole [] values reading few are small =
    ap (λ o. o >>= (λ r. Some (args_of values, r))) (number_of_digits reading small) ∙ ap (λ vs. Some (args_of vs, reading)) (sym (append-nil values))
issued_whole (n ∷ more) values reading few are small =
    let first : IsWord n = are 0 0 (omega arith) in
    let size : length (values ++ n ∷ more) ≡ length values + suc (length more) = length-append values (n ∷ more) in
    ap (λ (t : Bool). if t then one_in (issued_words more reading) >>= (λ r. Some (args_of values, r)) else number_in (decimal n) >>= (λ m. one_more (args_of values) m >>= (λ args. issued_in args (issued_words more reading)))) (no_sign n first)
    ∙ ap (λ o. o >>= (λ m. one_more (args_of values) m >>= (λ args. issued_in args (issued_words more reading)))) (number_of_digits n first)
    ∙ ap (λ o. o >>= (λ args. issued_in args (issued_words more reading))) (more_whole values n (omega (arith, size, few)))
    ∙ issued_whole more (values ++ n ∷ []) reading (omega (arith, few, ap (λ (vs : List ℕ). length vs) (append_assoc values (n ∷ []) more))) (All-tail IsWord n more are) small
    ∙ ap (λ vs. Some (args_of vs, reading)) (append_assoc values (n ∷ []) more)

is_some_found : (o : Option ℕ) → is_some o ≡ true → (n : ℕ) × (o ≡ Some n)
is_some_found None e = cc
is_some_found (Some n) e = (n, refl)

numbered_found : (w : List ℕ) → is_numbered w ≡ true → IsIssued w
numbered_found [] e = cc
numbered_found (b ∷ digits) e =
    let p = and_parts (b == 35) (is_some (number_in digits)) e in
    let n = is_some_found (number_in digits) p.1 in
    let d = digits_of_number n.0 digits n.1 in
    let sign : b ≡ 35 = eqb-true b 35 p.0 in
    inr (n.0, d.0, λ i. sign i ∷ d.1 i)

named_found : (w name : List ℕ) → issued_name w ≡ Some name → IsIssued w × (w ≡ name)
named_found w name e = by (is_name w) refl (is_numbered w) refl e
  where
    by : (a : Bool) → is_name w ≡ a → (b : Bool) → is_numbered w ≡ b → (if a || b then Some w else None) ≡ Some name → IsIssued w × (w ≡ name)
    by true is b counts e = (inl is, same_some w name e)
    by false is true counts e = (numbered_found w counts, same_some w name e)
    by false is false counts e = cc

numbered_whole : (n : ℕ) → IsWord n → is_numbered (codes "#" ++ decimal n) ≡ true
numbered_whole n small = ap (λ o. is_some o) (number_of_digits n small)

named_whole : (name : List ℕ) → IsIssued name → issued_name name ≡ Some name
named_whole name (inl is) = ap (λ t. if t || is_numbered name then Some name else None) is
named_whole name (inr numbered) =
    ap (λ t. if t then Some name else None) (or_right (is_name name) (is_numbered name) (ap is_numbered numbered.2 ∙ numbered_whole numbered.0 numbered.1))

pub name_shown : (name : List ℕ) → IsIssued name → IsShown name
name_shown name (inl is) = word_shown name (name_word name is)
name_shown name (inr numbered) = subst IsShown (sym numbered.2) (word_shown (decimal numbered.0) (decimal_word numbered.0 numbered.1))

words_shown : (values : List ℕ) (reading : ℕ) → All IsWord values → IsShown (decimal reading) → AllShown (issued_words values reading)
words_shown [] reading are last = (refl, (last, tt))
words_shown (n ∷ values) reading are last = (word_shown (decimal n) (decimal_word n (are 0 0 (omega arith))), words_shown values reading (All-tail IsWord n values are) last)

values_of : (args : Args) (are : AreArgs args) → arguments_of args ≡ are.values
values_of args are = ap arguments_of are.are ∙ values_are are.values are.few

pub arguments_shown : (args : Args) (reading : ℕ) → AreArgs args → IsShown (decimal reading) → AllShown (issued_words (arguments_of args) reading)
arguments_shown args reading are last = subst (λ vs. AllShown (issued_words vs reading)) (sym (values_of args are)) (words_shown are.values reading are.words last)

-- what the words of an issue give
pub issue_found : (words : List (List ℕ)) (t : LineText) → issue_in words ≡ Some t
    → (site : ℕ) × (name : List ℕ) × (args : Args) × (reading : ℕ) × (t ≡ Issue site name args reading) × IsWord site × IsIssued name × AreArgs args × IsWord reading
    × (words ≡ decimal site ∷ name ∷ issued_words (arguments_of args) reading)
issue_found [] t e = cc
issue_found (w ∷ words) t e =
    let s = then_found (number_in w) (λ site. issue_named site words) t e in
    let d = digits_of_number s.0 w s.1 in
    let n = rest words s.0 s.2 in
    (s.0, n.0, n.1, n.2, n.3, d.0, n.4, n.5, n.6, λ i. d.1 i ∷ n.7 i)
  where
    rest : (ws : List (List ℕ)) (site : ℕ) → issue_named site ws ≡ Some t
        → (name : List ℕ) × (args : Args) × (reading : ℕ) × (t ≡ Issue site name args reading) × IsIssued name × AreArgs args × IsWord reading × (ws ≡ name ∷ issued_words (arguments_of args) reading)
    rest [] site e = cc
    rest (v ∷ ws) site e =
        let p = then_found (issued_in no_args ws) (λ p. issued_name v >>= (λ name. Some (Issue site name p.0 p.1))) t e in
        let name = then_found (issued_name v) (λ name. Some (Issue site name p.0.0 p.0.1)) t p.2 in
        let f = issued_found ws [] p.0 (omega arith) p.1 in
        let g = named_found v name.0 name.1 in
        let args : p.0.0 ≡ args_of f.more = ap (λ (q : Args × ℕ). q.0) f.same in
        let last : p.0.1 ≡ f.reading = ap (λ (q : Args × ℕ). q.1) f.same in
        let values : arguments_of p.0.0 ≡ f.more = ap arguments_of args ∙ values_are f.more f.few in (
          v,
          p.0.0,
          f.reading,
          sym (same_some _ t name.2) ∙ (λ i. Issue site (sym g.1 i) p.0.0 (last i)),
          g.0,
          record { values = f.more; few = f.few; words = f.are; are = args },
          f.word,
          λ i. v ∷ (f.spelled ∙ ap (λ vs. issued_words vs f.reading) (sym values)) i,
        )

-- and its words give it
pub issue_whole : (site : ℕ) (name : List ℕ) (args : Args) (reading : ℕ) → IsWord site → IsIssued name → AreArgs args → IsWord reading
    → issue_in (decimal site ∷ name ∷ issued_words (arguments_of args) reading) ≡ Some (Issue site name args reading)
issue_whole site name args reading a b c d =
    let values = values_of args c in
    let whole : issued_in no_args (issued_words (arguments_of args) reading) ≡ Some (args, reading) =
    ap (λ vs. issued_in no_args (issued_words vs reading)) values ∙ issued_whole c.values [] reading c.few c.words d ∙ ap (λ x. Some (x, reading)) (sym c.are) in
    ap (λ o. o >>= (λ s. issue_named s (name ∷ issued_words (arguments_of args) reading))) (number_of_digits site a)
    ∙ ap (λ o. o >>= (λ p. issued_name name >>= (λ v. Some (Issue site v p.0 p.1)))) whole
    ∙ ap (λ o. o >>= (λ v. Some (Issue site v args reading))) (named_whole name b)
