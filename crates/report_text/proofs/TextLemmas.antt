-- The text of a line is read as what it spells, and from nothing else.
use Rattle.std.specs.Prelude.{codes, decimal, map, if◌then◌else◌}
use Rattle.std.specs.List.{join_with_byte}
use Rattle.std.specs.Option.{option_map}
use Rattle.std.specs.Str.{bytes_eq}
use Rattle.std.proofs.Common.{◌≡◌, ◌∙◌, ℕ, Bool, true, false, List, [], ◌∷◌, ◌++◌, Option, Some, None, refl, sym, ap, subst, append_assoc}
use Rattle.std.proofs.lemmas.Slice.Eq.{bytes_eq-Decides}
use Rattle.devices.specs.Journal.{arguments_of}
use Rattle.devices.specs.declared.event.RunEnd.{RunEnd}
use Rattle.devices.specs.declared.event.RunEnd.TheVariants.{Halted, Trapped, Power}
use Rattle.power_trace.specs.Report.{number}
use Rattle.power_trace.specs.Short.{IsWord, IsWordEnd}
use Rattle.report_text.proofs.IssueLemmas.{issue_found, issue_whole, issue_spelled, arguments_shown, name_shown}
use Rattle.report_text.proofs.PartLemmas.{AllShown, IsShown, word_shown, decimal_word}
use Rattle.report_text.proofs.PlaceLemmas.{PlaceSpells, place_found, place_whole, place_shown}
use Rattle.report_text.proofs.WordLemmas.{number_of_digits, digits_of_number}
use Rattle.report_text.specs.Grammar.{IsText, IsPlace, IsIssued, AreArgs, place_text}
use Rattle.report_text.specs.Grammar as grammar
use Rattle.report_text.specs.Parts.{only_part}
use Rattle.report_text.specs.Reading.{◌>>=◌, number_in, one_in, two_in, issue_in, copy_in, place_in, end_in, end_word, text_in, text_of, keyword_in, find_key, keywords, word_of}
use Rattle.report_text.specs.declared.keyword.Keyword.{Keyword}
use Rattle.report_text.specs.declared.keyword.Keyword.TheVariants as key
use Rattle.report_text.specs.declared.line.LineText.{LineText}
use Rattle.report_text.specs.declared.line.LineText.TheVariants.{Boot, Begin, Look, Kept, Drop, Issue, Seal, Copy, Commit, Trap, End}
use Rattle.report_text.specs.declared.line.ReportPlace.{ReportPlace}

-- the words of an end
abbrev pub end_words : RunEnd → List (List ℕ)
end_words Halted = codes "halted" ∷ []
end_words (Trapped code) = codes "trapped" ∷ decimal code ∷ []
end_words Power = codes "power" ∷ []

-- the words of a text
abbrev pub words_of : LineText → List (List ℕ)
words_of (Boot n) = codes "boot" ∷ decimal n ∷ []
words_of (Begin task) = codes "begin" ∷ decimal task ∷ []
words_of (Look site time) = codes "look" ∷ decimal site ∷ decimal time ∷ []
words_of (Kept site value) = codes "kept" ∷ decimal site ∷ decimal value ∷ []
words_of (Drop site) = codes "drop" ∷ decimal site ∷ []
words_of (Issue site name args reading) = codes "issue" ∷ decimal site ∷ name ∷ (map decimal (arguments_of args) ++ codes "=" ∷ decimal reading ∷ [])
words_of (Seal site) = codes "seal" ∷ decimal site ∷ []
words_of (Copy site from to words) = codes "copy" ∷ decimal site ∷ place_text from ∷ place_text to ∷ decimal words ∷ []
words_of (Commit next) = codes "commit" ∷ decimal next ∷ []
words_of (Trap code) = codes "trap" ∷ decimal code ∷ []
words_of (End ending) = codes "end" ∷ end_words ending

two_joined : (key : List ℕ) (n m : ℕ) → key ++ (32 ∷ (decimal n ++ (32 ∷ decimal m))) ≡ key ++ number n ++ number m
two_joined key n m = sym (append_assoc key (number n) (number m))

copy_joined : (n f t w : List ℕ) → codes "copy" ++ (32 ∷ (n ++ (32 ∷ (f ++ (32 ∷ (t ++ (32 ∷ w))))))) ≡ codes "copy" ++ (32 ∷ n) ++ codes " " ++ f ++ codes " " ++ t ++ (32 ∷ w)
copy_joined n f t w =
    sym (append_assoc (codes "copy") (32 ∷ n) (32 ∷ (f ++ (32 ∷ (t ++ (32 ∷ w))))))
    ∙ sym (append_assoc (codes "copy" ++ (32 ∷ n)) (codes " ") (f ++ (32 ∷ (t ++ (32 ∷ w)))))
    ∙ sym (append_assoc (codes "copy" ++ (32 ∷ n) ++ codes " ") f (32 ∷ (t ++ (32 ∷ w))))
    ∙ sym (append_assoc (codes "copy" ++ (32 ∷ n) ++ codes " " ++ f) (codes " ") (t ++ (32 ∷ w)))
    ∙ sym (append_assoc (codes "copy" ++ (32 ∷ n) ++ codes " " ++ f ++ codes " ") t (32 ∷ w))

-- words behind a first one, with a space between any two, are the text
pub text_spelled : (t : LineText) (s : List ℕ) → join_with_byte 32 (s ∷ words_of t) ≡ s ++ (32 ∷ grammar.text_of t)
text_spelled (Boot n) s = refl
text_spelled (Begin task) s = refl
text_spelled (Look site time) s = ap (λ x. s ++ (32 ∷ x)) (two_joined (codes "look") site time)
text_spelled (Kept site value) s = ap (λ x. s ++ (32 ∷ x)) (two_joined (codes "kept") site value)
text_spelled (Drop site) s = refl
text_spelled (Issue site name args reading) s = ap (λ x. s ++ (32 ∷ x)) (issue_spelled site name (arguments_of args) reading)
text_spelled (Seal site) s = refl
text_spelled (Copy site from to words) s = ap (λ x. s ++ (32 ∷ x)) (copy_joined (decimal site) (place_text from) (place_text to) (decimal words))
text_spelled (Commit next) s = refl
text_spelled (Trap code) s = refl
text_spelled (End Halted) s = refl
text_spelled (End (Trapped code)) s = refl
text_spelled (End Power) s = refl

shown : (n : ℕ) → IsWord n → IsShown (decimal n)
shown n h = word_shown (decimal n) (decimal_word n h)

end_shown : (e : RunEnd) → IsWordEnd e → AllShown (end_words e)
end_shown Halted h = (refl, tt)
end_shown (Trapped code) h = (refl, (shown code h, tt))
end_shown Power h = (refl, tt)

-- no word has a space or a line feed
pub text_shown : (t : LineText) → IsText t → AllShown (words_of t)
text_shown (Boot n) h = (refl, (shown n h, tt))
text_shown (Begin task) h = (refl, (shown task h, tt))
text_shown (Look site time) h = (refl, (shown site h.0, (shown time h.1, tt)))
text_shown (Kept site value) h = (refl, (shown site h.0, (shown value h.1, tt)))
text_shown (Drop site) h = (refl, (shown site h, tt))
text_shown (Issue site name args reading) h = (refl, (shown site h.0, (name_shown name h.1, arguments_shown args reading h.2 (shown reading h.3))))
text_shown (Seal site) h = (refl, (shown site h, tt))
text_shown (Copy site from to words) h = (refl, (shown site h.0, (place_shown from h.1, (place_shown to h.2, (shown words h.3, tt)))))
text_shown (Commit next) h = (refl, (shown next h, tt))
text_shown (Trap code) h = (refl, (shown code h, tt))
text_shown (End ending) h = (refl, end_shown ending h)

same_some : {A : Type 0} (x y : A) → Some x ≡ Some y → x ≡ y
same_some x y e = cc

mapped_found : {A B : Type 0} (f : A → B) (o : Option A) (y : B) → option_map f o ≡ Some y → (x : A) × (o ≡ Some x) × (f x ≡ y)
mapped_found f None y e = cc
mapped_found f (Some x) y e = (x, refl, same_some (f x) y e)

then_found : {A B : Type 0} (o : Option A) (f : A → Option B) (y : B) → (o >>= f) ≡ Some y → (x : A) × (o ≡ Some x) × (f x ≡ Some y)
then_found None f y e = cc
then_found (Some x) f y e = (x, refl, e)

one_found : (words : List (List ℕ)) (n : ℕ) → one_in words ≡ Some n → IsWord n × (words ≡ decimal n ∷ [])
one_found [] n e = cc
one_found (w ∷ []) n e = let d = digits_of_number n w e in (d.0, ap (λ v. v ∷ []) d.1)
one_found (w ∷ v ∷ ws) n e = cc

one_whole : (n : ℕ) → IsWord n → one_in (decimal n ∷ []) ≡ Some n
one_whole n h = number_of_digits n h

two_found : (words : List (List ℕ)) (p : ℕ × ℕ) → two_in words ≡ Some p → (n m : ℕ) × (p ≡ (n, m)) × IsWord n × IsWord m × (words ≡ decimal n ∷ decimal m ∷ [])
two_found [] p e = cc
two_found (w ∷ ws) p e =
    let a = then_found (number_in w) (λ n. one_in ws >>= (λ m. Some (n, m))) p e in
    let b = then_found (one_in ws) (λ m. Some (a.0, m)) p a.2 in
    let d = digits_of_number a.0 w a.1 in
    let f = one_found ws b.0 b.1 in
    (a.0, b.0, sym (same_some _ _ b.2), d.0, f.0, ap (λ v. v ∷ ws) d.1 ∙ ap (λ vs. decimal a.0 ∷ vs) f.1)

two_whole : (n m : ℕ) → IsWord n → IsWord m → two_in (decimal n ∷ decimal m ∷ []) ≡ Some (n, m)
two_whole n m h k =
    ap (λ o. o >>= (λ i. one_in (decimal m ∷ []) >>= (λ j. Some (i, j)))) (number_of_digits n h)
    ∙ ap (λ o. o >>= (λ j. Some (n, j))) (number_of_digits m k)

-- the words spell the text
abbrev pub Spells : List (List ℕ) → LineText → Type 0
Spells words t = IsText t × (words ≡ words_of t)

one_text : (make : ℕ → LineText) (first : List ℕ) → ((n : ℕ) → IsWord n → IsText (make n)) → ((n : ℕ) → words_of (make n) ≡ first ∷ decimal n ∷ []) → (words : List (List ℕ)) (t : LineText)
    → option_map make (one_in words) ≡ Some t → Spells (first ∷ words) t
one_text make first good spelled words t e =
    let m = mapped_found make (one_in words) t e in
    let f = one_found words m.0 m.1 in
    subst (Spells (first ∷ words)) m.2 (good m.0 f.0, ap (λ ws. first ∷ ws) f.1 ∙ sym (spelled m.0))

two_text : (make : ℕ → ℕ → LineText) (first : List ℕ) → ((n m : ℕ) → IsWord n → IsWord m → IsText (make n m)) → ((n m : ℕ) → words_of (make n m) ≡ first ∷ decimal n ∷ decimal m ∷ []) → (words : List (List ℕ)) (t : LineText)
    → (two_in words >>= (λ p. Some (make p.0 p.1))) ≡ Some t → Spells (first ∷ words) t
two_text make first good spelled words t e =
    let a = then_found (two_in words) (λ p. Some (make p.0 p.1)) t e in
    let f = two_found words a.0 a.1 in
    let made : make f.0 f.1 ≡ t = sym (ap (λ (p : ℕ × ℕ). make p.0 p.1) f.2) ∙ same_some _ _ a.2 in
    subst (Spells (first ∷ words)) made (good f.0 f.1 f.3 f.4, ap (λ ws. first ∷ ws) f.5 ∙ sym (spelled f.0 f.1))

issue_text : (words : List (List ℕ)) (t : LineText) → issue_in words ≡ Some t → Spells (codes "issue" ∷ words) t
issue_text words t e =
    let f = issue_found words t e in
    subst (Spells (codes "issue" ∷ words)) (sym f.4) ((f.5, f.6, f.7, f.8), ap (λ ws. codes "issue" ∷ ws) f.9)

copy_made : (w a b : List ℕ) (ws : List (List ℕ)) (site n : ℕ) (from to : ReportPlace) (t : LineText) → IsWord site × (w ≡ decimal site) → PlaceSpells a from → PlaceSpells b to → IsWord n × (ws ≡ decimal n ∷ [])
    → Copy site from to n ≡ t → Spells (codes "copy" ∷ w ∷ a ∷ b ∷ ws) t
copy_made w a b ws site n from to t first source target last is =
    subst (Spells (codes "copy" ∷ w ∷ a ∷ b ∷ ws)) is ((first.0, source.0, target.0, last.0), λ i. codes "copy" ∷ first.1 i ∷ source.1 i ∷ target.1 i ∷ last.1 i)

copy_text : (words : List (List ℕ)) (t : LineText) → copy_in words ≡ Some t → Spells (codes "copy" ∷ words) t
copy_text [] t e = cc
copy_text (w ∷ []) t e = cc
copy_text (w ∷ a ∷ []) t e = cc
copy_text (w ∷ a ∷ b ∷ ws) t e =
    let s = then_found (number_in w) (λ site. one_in ws >>= (λ n. place_in a >>= (λ f. place_in b >>= (λ g. Some (Copy site f g n))))) t e in
    let n = then_found (one_in ws) (λ n. place_in a >>= (λ f. place_in b >>= (λ g. Some (Copy s.0 f g n)))) t s.2 in
    let f = then_found (place_in a) (λ f. place_in b >>= (λ g. Some (Copy s.0 f g n.0))) t n.2 in
    let g = then_found (place_in b) (λ g. Some (Copy s.0 f.0 g n.0)) t f.2 in
    copy_made w a b ws s.0 n.0 f.0 g.0 t (digits_of_number s.0 w s.1) (place_found a f.0 f.1) (place_found b g.0 g.1) (one_found ws n.0 n.1) (same_some (Copy s.0 f.0 g.0 n.0) t g.2)

-- the words spell the end
abbrev EndSpells : List (List ℕ) → RunEnd → Type 0
EndSpells words e = IsWordEnd e × (words ≡ end_words e)

word_end : (w : List ℕ) (e : RunEnd) → end_word w ≡ Some e → EndSpells (w ∷ []) e
word_end w e is = by (bytes_eq w (codes "halted")) refl (bytes_eq w (codes "power")) refl is
  where
    by : (h : Bool) → bytes_eq w (codes "halted") ≡ h → (p : Bool) → bytes_eq w (codes "power") ≡ p → (if h then Some Halted else if p then Some Power else None) ≡ Some e → EndSpells (w ∷ []) e
    by true a p b is = subst (EndSpells (w ∷ [])) (same_some _ _ is) (tt, ap (λ v. v ∷ []) ((bytes_eq-Decides w (codes "halted")).0 a))
    by false a true b is = subst (EndSpells (w ∷ [])) (same_some _ _ is) (tt, ap (λ v. v ∷ []) ((bytes_eq-Decides w (codes "power")).0 b))
    by false a false b is = cc

only_end : (w : List ℕ) (ws : List (List ℕ)) (e : RunEnd) → (only_part (w ∷ ws) >>= end_word) ≡ Some e → EndSpells (w ∷ ws) e
only_end w [] e is = word_end w e is
only_end w (v ∷ ws) e is = cc

trapped_end : (w : List ℕ) (ws : List (List ℕ)) (e : RunEnd) → w ≡ codes "trapped" → option_map Trapped (one_in ws) ≡ Some e → EndSpells (w ∷ ws) e
trapped_end w ws e first is =
    let m = mapped_found Trapped (one_in ws) e is in
    let f = one_found ws m.0 m.1 in
    subst (EndSpells (w ∷ ws)) m.2 (f.0, λ i. first i ∷ f.1 i)

end_found : (words : List (List ℕ)) (e : RunEnd) → end_in words ≡ Some e → EndSpells words e
end_found [] e is = cc
end_found (w ∷ ws) e is = by (bytes_eq w (codes "trapped")) refl is
  where
    by : (h : Bool) → bytes_eq w (codes "trapped") ≡ h → (if h then option_map Trapped (one_in ws) else (only_part (w ∷ ws) >>= end_word)) ≡ Some e → EndSpells (w ∷ ws) e
    by true a is = trapped_end w ws e ((bytes_eq-Decides w (codes "trapped")).0 a) is
    by false a is = only_end w ws e is

end_text : (words : List (List ℕ)) (t : LineText) → option_map End (end_in words) ≡ Some t → Spells (codes "end" ∷ words) t
end_text words t e =
    let m = mapped_found End (end_in words) t e in
    let f = end_found words m.0 m.1 in
    subst (Spells (codes "end" ∷ words)) m.2 (f.0, ap (λ ws. codes "end" ∷ ws) f.1)

by_key : (k : Keyword) (words : List (List ℕ)) (t : LineText) → text_in k words ≡ Some t → Spells (word_of k ∷ words) t
by_key key.Boot words t e = one_text Boot (codes "boot") (λ n h. h) (λ n. refl) words t e
by_key key.Begin words t e = one_text Begin (codes "begin") (λ n h. h) (λ n. refl) words t e
by_key key.Look words t e = two_text Look (codes "look") (λ n m h k. (h, k)) (λ n m. refl) words t e
by_key key.Kept words t e = two_text Kept (codes "kept") (λ n m h k. (h, k)) (λ n m. refl) words t e
by_key key.Drop words t e = one_text Drop (codes "drop") (λ n h. h) (λ n. refl) words t e
by_key key.Issue words t e = issue_text words t e
by_key key.Seal words t e = one_text Seal (codes "seal") (λ n h. h) (λ n. refl) words t e
by_key key.Copy words t e = copy_text words t e
by_key key.Commit words t e = one_text Commit (codes "commit") (λ n h. h) (λ n. refl) words t e
by_key key.Trap words t e = one_text Trap (codes "trap") (λ n h. h) (λ n. refl) words t e
by_key key.End words t e = end_text words t e

key_found : (ks : List Keyword) (w : List ℕ) (k : Keyword) → find_key ks w ≡ Some k → w ≡ word_of k
key_found [] w k e = cc
key_found (j ∷ ks) w k e = by (bytes_eq w (word_of j)) refl (find_key ks w) (key_found ks w k) e
  where
    by : (t : Bool) → bytes_eq w (word_of j) ≡ t → (o : Option Keyword) → (o ≡ Some k → w ≡ word_of k) → (if t then Some j else o) ≡ Some k → w ≡ word_of k
    by true is o later e = (bytes_eq-Decides w (word_of j)).0 is ∙ ap word_of (same_some j k e)
    by false is o later e = later e

-- what is read of words is spelled by them
pub text_found : (words : List (List ℕ)) (t : LineText) → text_of words ≡ Some t → Spells words t
text_found [] t e = cc
text_found (w ∷ ws) t e =
    let k = then_found (keyword_in w) (λ k. text_in k ws) t e in
    let s = by_key k.0 ws t k.2 in
    (s.0, ap (λ v. v ∷ ws) (key_found keywords w k.0 k.1) ∙ s.1)

copy_whole : (site : ℕ) (from to : ReportPlace) (words : ℕ) → IsWord site → IsPlace from → IsPlace to → IsWord words → copy_in (decimal site ∷ place_text from ∷ place_text to ∷ decimal words ∷ []) ≡ Some (Copy site from to words)
copy_whole site from to words a b c d =
    ap (λ o. o >>= (λ s. one_in (decimal words ∷ []) >>= (λ n. place_in (place_text from) >>= (λ f. place_in (place_text to) >>= (λ g. Some (Copy s f g n)))))) (number_of_digits site a)
    ∙ ap (λ o. o >>= (λ n. place_in (place_text from) >>= (λ f. place_in (place_text to) >>= (λ g. Some (Copy site f g n))))) (number_of_digits words d)
    ∙ ap (λ o. o >>= (λ f. place_in (place_text to) >>= (λ g. Some (Copy site f g words)))) (place_whole from b)
    ∙ ap (λ o. o >>= (λ g. Some (Copy site from g words))) (place_whole to c)

-- and what words spell is read of them
pub text_whole : (t : LineText) → IsText t → text_of (words_of t) ≡ Some t
text_whole (Boot n) h = ap (option_map Boot) (one_whole n h)
text_whole (Begin task) h = ap (option_map Begin) (one_whole task h)
text_whole (Look site time) h = ap (λ o. o >>= (λ p. Some (Look p.0 p.1))) (two_whole site time h.0 h.1)
text_whole (Kept site value) h = ap (λ o. o >>= (λ p. Some (Kept p.0 p.1))) (two_whole site value h.0 h.1)
text_whole (Drop site) h = ap (option_map Drop) (one_whole site h)
text_whole (Issue site name args reading) h = issue_whole site name args reading h.0 h.1 h.2 h.3
text_whole (Seal site) h = ap (option_map Seal) (one_whole site h)
text_whole (Copy site from to words) h = copy_whole site from to words h.0 h.1 h.2 h.3
text_whole (Commit next) h = ap (option_map Commit) (one_whole next h)
text_whole (Trap code) h = ap (option_map Trap) (one_whole code h)
text_whole (End Halted) h = refl
text_whole (End (Trapped code)) h = ap (λ o. option_map End (option_map Trapped o)) (one_whole code h)
text_whole (End Power) h = refl
