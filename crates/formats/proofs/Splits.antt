-- The words of the line that a text begins with.
use Rattle.std.proofs.Common.{◌≡◌, ℕ, zero, suc, ◌+◌, ◌-◌, ◌*◌, ◌<◌, ◌≤◌, Bool, true, false, cond, eqb, ◌⊎◌, List, [], ◌∷◌, ◌++◌, length, get_or, take, drop, Some, None, Option, MatchBool, MatchOption, ◌≢◌, sym, refl, ap, ◌∙◌, subst, inl, inr, ⊎_elim, arith}
use Rattle.std.specs.List.{All, AllByRecursion, AllWithin, HoldsAt}
use Rattle.std.proofs.ByRecursion.{All-get_or, All-from_get_or}
use Rattle.std.proofs.Math.Seq.{take-append_seam, take-append-add}
use Rattle.std.proofs.lemmas.List.{append-nil, append_assoc, length-append, drop_more, drop_all, drop_at, take_all, take-append-drop, take-append-le, get_or-append-add, length-take-le}
use Rattle.std.proofs.lemmas.Bool.{cond-true, cond-false, eq-eqb, ne_eqb, cases_eq}
use Rattle.formats.specs.Format.{most_names, longest_line, NameByte, Name, Apart, line, Begins}
use Rattle.formats.specs.declared.names.NamesLine.{NamesLine}
use Rattle.formats.specs.Outcomes.{NoNames}
use Rattle.formats.specs.Places.{FirstLine, words_from, words, Ends, FirstOf, Lacks, NoneOf}

-- ---- a byte more

pub word_more : (cur t : List ℕ) (b : ℕ) → (b ≡ 32 → ⊥) → (b ≡ 10 → ⊥) → words_from cur (b ∷ t) ≡ words_from (cur ++ b ∷ []) t
word_more cur t b h k = cond-false (eqb b 10) _ _ (ne_eqb _ _ k) ∙ cond-false (eqb b 32) _ _ (ne_eqb _ _ h)

word_last : (cur t : List ℕ) (b : ℕ) → b ≡ 10 → words_from cur (b ∷ t) ≡ cur ∷ []
word_last cur t b h = cond-true (eqb b 10) _ _ (eq-eqb _ _ h)

word_space : (cur t : List ℕ) (b : ℕ) → b ≡ 32 → words_from cur (b ∷ t) ≡ cur ∷ words t
word_space cur t b h = cond-false (eqb b 10) _ _ (ne_eqb _ _ (λ e. omega arith)) ∙ cond-true (eqb b 32) _ _ (eq-eqb _ _ h)

-- there is a word, if only an empty one
words_some : (cur t : List ℕ) → 1 ≤ length (words_from cur t)
words_some cur [] = omega arith
words_some cur (b ∷ t) = go (eqb b 10) (eqb b 32) (words_some (cur ++ b ∷ []) t)
  where
    go : (x y : Bool) → 1 ≤ length (words_from (cur ++ b ∷ []) t) → 1 ≤ length (cond x (cur ∷ []) (cond y (cur ∷ words t) (words_from (cur ++ b ∷ []) t)))
    go true y h = omega arith
    go false true h = omega arith
    go false false h = h

-- no more than bytes, and one
pub words_few : (cur t : List ℕ) → length (words_from cur t) ≤ length t + 1
words_few cur [] = omega arith
words_few cur (b ∷ t) = go (eqb b 10) (eqb b 32) (words_few [] t) (words_few (cur ++ b ∷ []) t)
  where
    go : (x y : Bool) → length (words t) ≤ length t + 1 → length (words_from (cur ++ b ∷ []) t) ≤ length t + 1 → length (cond x (cur ∷ []) (cond y (cur ∷ words t) (words_from (cur ++ b ∷ []) t))) ≤ length (b ∷ t) + 1
    go true y h k = omega arith
    go false true h k = omega arith
    go false false h k = omega arith

-- ---- the words of a line of names are the names

words_name : (cur w t : List ℕ) → AllByRecursion NameByte w → words_from cur (w ++ t) ≡ words_from (cur ++ w) t
words_name cur [] t h = ap (λ l. words_from l t) (sym (append-nil cur))
words_name cur (b ∷ w) t h =
    word_more cur (w ++ t) b (λ e. omega (arith, h.0)) (λ e. omega (arith, h.0))
    ∙ (words_name (cur ++ b ∷ []) w t h.1 ∙ ap (λ l. words_from l t) (append_assoc cur (b ∷ []) w))

pub words-line : (ws : List (List ℕ)) (rest : List ℕ) → 1 ≤ length ws → AllByRecursion Name ws → words (line ws ++ rest) ≡ ws
words-line [] rest h a = absurd (omega arith)
words-line (w ∷ []) rest h a =
    ap words (append_assoc w (10 ∷ []) rest) ∙ (words_name [] w (10 ∷ rest) a.0.bytes ∙ word_last w rest 10 refl)
words-line (w ∷ x ∷ ws) rest h a =
    ap words (append_assoc w (32 ∷ line (x ∷ ws)) rest)
    ∙ (words_name [] w (32 ∷ (line (x ∷ ws) ++ rest)) a.0.bytes
    ∙ (word_space w (line (x ∷ ws) ++ rest) 32 refl ∙ ap (λ l. w ∷ l) (words-line (x ∷ ws) rest (omega arith) a.1)))

pub begins_words : (text rest : List ℕ) (names : List (List ℕ)) → Begins text names rest → words text ≡ names
begins_words text rest names b = ap words b.is ∙ words-line names rest b.names_ok.some b.names_ok.each

-- a text begins with at most one line of names
pub one_line : (text rest rest' : List ℕ) (names names' : List (List ℕ)) → Begins text names rest → Begins text names' rest' → (names ≡ names') × (rest ≡ rest')
one_line text rest rest' names names' h k =
    let e : names ≡ names' = sym (begins_words text rest names h) ∙ begins_words text rest' names' k in (
      e,
      sym (drop_at (line names) rest (length (line names)) refl)
          ∙ (ap (drop (length (line names))) (sym h.is ∙ k.is)
          ∙ drop_at (line names') rest' (length (line names)) (ap (λ l. length (line l)) (sym e))),
    )

-- ---- the first word

word_run : (e : ℕ) (cur t : List ℕ) → e ≤ length t → ((k : ℕ) → k < e → Ends (get_or t k 0) → ⊥) → words_from cur t ≡ words_from (cur ++ take e t) (drop e t)
word_run zero cur t h n = ap (λ l. words_from l t) (sym (append-nil cur))
word_run (suc e) cur [] h n = absurd (omega arith)
word_run (suc e) cur (b ∷ t) h n =
    word_more cur t b (λ z. n 0 (omega arith) (inr z)) (λ z. n 0 (omega arith) (inl z))
    ∙ (word_run e (cur ++ b ∷ []) t (omega arith) (λ k l. n (suc k) (omega arith)) ∙ ap (λ l. words_from l (drop e t)) (append_assoc cur (b ∷ []) (take e t)))

-- no byte ends it
pub one_word : (text : List ℕ) → NoneOf Ends text → words text ≡ text ∷ []
one_word text n =
    word_run (length text) [] text (omega arith) n
    ∙ (ap (words_from (take (length text) text)) (drop_all (length text) text (omega arith)) ∙ ap (λ w. w ∷ []) (take_all (length text) text (omega arith)))

-- it ends at place e
module _ (text : List ℕ) (e : ℕ) (f : FirstOf Ends text e) where
  at_end : words text ≡ words_from (take e text) (get_or text e 0 ∷ drop (e + 1) text)
  at_end = word_run e [] text (omega (arith, f.within)) f.before ∙ ap (words_from (take e text)) (drop_more text e 0 f.within)

  pub word_then : get_or text e 0 ≡ 32 → words text ≡ take e text ∷ words (drop (e + 1) text)
  word_then h = at_end ∙ word_space (take e text) (drop (e + 1) text) (get_or text e 0) h

  pub last_word : (get_or text e 0 ≡ 32 → ⊥) → words text ≡ take e text ∷ []
  last_word n = at_end ∙ word_last (take e text) (drop (e + 1) text) (get_or text e 0) (⊎_elim (λ k. k) (λ k. absurd (n k)) f.is)

-- ---- line 1

-- it has a byte 10
line_has : (ws : List (List ℕ)) (rest : List ℕ) → (k : ℕ) × (k < length (line ws ++ rest)) × (get_or (line ws ++ rest) k 0 ≡ 10)
line_has [] rest = (0, omega arith, refl)
line_has (w ∷ []) rest =
    let e = append_assoc w (10 ∷ []) rest in
    let z : length w + 0 ≡ length w = omega arith in
    (length w, omega (arith, ap length e, length-append w (10 ∷ rest)), ap (λ l. get_or l (length w) 0) e ∙ (ap (λ i. get_or (w ++ 10 ∷ rest) i 0) (sym z) ∙ get_or-append-add w (10 ∷ rest) 0 0))
line_has (w ∷ x ∷ ws) rest =
    let h = line_has (x ∷ ws) rest in
    let e = append_assoc w (32 ∷ line (x ∷ ws)) rest in (
      length w + suc h.0,
      omega (arith, h.1, ap length e, length-append w (32 ∷ (line (x ∷ ws) ++ rest))),
      ap (λ l. get_or l (length w + suc h.0) 0) e ∙ (get_or-append-add w (32 ∷ (line (x ∷ ws) ++ rest)) (suc h.0) 0 ∙ h.2),
    )

line_cons : (w : List ℕ) (ws : List (List ℕ)) → 1 ≤ length ws → line (w ∷ ws) ≡ w ++ 32 ∷ line ws
line_cons w [] h = absurd (omega arith)
line_cons w (x ∷ ws) h = refl

-- with its byte 10 at place e, it is the line of its words
line-words : (cur t : List ℕ) (e : ℕ) → e < length t → get_or t e 0 ≡ 10 → ((k : ℕ) → k < e → get_or t k 0 ≡ 10 → ⊥) → line (words_from cur t) ≡ cur ++ take (e + 1) t
line-words cur [] e h z n = absurd (omega arith)
line-words cur (b ∷ t) zero h z n = ap line (word_last cur t b z) ∙ ap (λ x. cur ++ x ∷ []) (sym z)
line-words cur (b ∷ t) (suc e) h z n =
    let m : (k : ℕ) → k < e → get_or t k 0 ≡ 10 → ⊥ = λ k l. n (suc k) (omega arith) in
    let y : suc (e + 1) ≡ suc e + 1 = omega arith in
    subst (λ i. line (words_from cur (b ∷ t)) ≡ cur ++ take i (b ∷ t)) y
    (⊎_elim
    (λ (k : b ≡ 32). ap line (word_space cur t b k)
    ∙ (line_cons cur (words t) (words_some [] t)
    ∙ (ap (λ l. cur ++ 32 ∷ l) (line-words [] t e (omega arith) z m) ∙ ap (λ x. cur ++ x ∷ take (e + 1) t) (sym k))))
    (λ (k : b ≡ 32 → ⊥). ap line (word_more cur t b k (n 0 (omega arith))) ∙ (line-words (cur ++ b ∷ []) t e (omega arith) z m ∙ append_assoc cur (b ∷ []) (take (e + 1) t)))
    (cases_eq b 32))

module _ (text : List ℕ) where
  pub no_line : NoneOf (λ b. b ≡ 10) text → NoNames text
  no_line n names rest b =
      let h = line_has names rest in n h.0 (omega (arith, h.1, ap length b.is)) (ap (λ l. get_or l h.0 0) b.is ∙ h.2)

  pub too_many : most_names < length (words text) → NoNames text
  too_many h names rest b = omega (arith, b.names_ok.few, ap length (begins_words text rest names b))

  pub no_names : (All Name (words text) → ⊥) → NoNames text
  no_names n names rest b =
      let e = begins_words text rest names b in
      let a : AllByRecursion Name (words text) = subst (AllByRecursion Name) (sym e) b.names_ok.each in
      n (λ k d h. All-get_or Name (words text) k d h a)

  pub names_read : (e n : ℕ) → FirstOf (λ b. b ≡ 10) text e → n ≡ length (words text) → n ≤ most_names → All Name (words text) → FirstLine text (record { count = n; size = e + 1 })
  names_read e n f z few each =
      let l = line-words [] text e f.within f.is f.before in
      record {
        names = words text;
        begins = record {
          names_ok = record { some = words_some [] text; few = omega arith; each = All-from_get_or Name (words text) [] (λ k h. each k [] h) };
          is = sym (take-append-drop (e + 1) text) ∙ ap (λ x. x ++ drop (e + 1) text) (sym l);
        };
        count_is = sym z;
        size_is = ap length l ∙ length-take-le (e + 1) text (omega (arith, f.within));
        within = omega (arith, f.within);
      }

-- a name has at most 16 bytes, and one byte stands after it
pub length-line : (ws : List (List ℕ)) → 1 ≤ length ws → AllByRecursion Name ws → length (line ws) ≤ 17 * length ws
length-line [] h a = absurd (omega arith)
length-line (w ∷ []) h a = omega (arith, length-append w (10 ∷ []), a.0.few)
length-line (w ∷ x ∷ ws) h a =
    omega (arith, length-append w (32 ∷ line (x ∷ ws)), a.0.few, length-line (x ∷ ws) (omega arith) a.1)

-- it lies within the longest line
module _ (text : List ℕ) where
  abbrev front : List ℕ
  front = take longest_line text

  pub none_past : NoNames front → NoNames text
  none_past n names rest b =
      let l = line names in
      let h : length l ≤ longest_line = omega (arith, length-line names b.names_ok.some b.names_ok.each, b.names_ok.few) in
      let k : ℕ = longest_line - length l in
      let e : length l + k ≡ longest_line = omega (arith, h) in
      n names (take k rest)
      (record {
        names_ok = b.names_ok;
        is = ap (take longest_line) b.is ∙ (ap (λ m. take m (l ++ rest)) (sym e) ∙ take-append-add l rest k);
      })

  pub first_past : (l : NamesLine) → FirstLine front l → FirstLine text l
  first_past l f =
      let whole : front ++ drop longest_line text ≡ text = take-append-drop longest_line text in
      let p : take l.size text ≡ line f.names =
      ap (take l.size) (sym whole)
      ∙ (take-append-le l.size front (drop longest_line text) f.within
      ∙ (ap (take l.size) f.begins.is
      ∙ (ap (λ m. take m (line f.names ++ drop l.size front)) (sym f.size_is) ∙ take-append_seam (line f.names) (drop l.size front)))) in
      record {
        names = f.names;
        begins = record {
          names_ok = f.begins.names_ok;
          is = sym (take-append-drop l.size text) ∙ ap (λ x. x ++ drop l.size text) p;
        };
        count_is = f.count_is;
        size_is = f.size_is;
        within = omega (arith, f.within, ap length whole, length-append front (drop longest_line text));
      }

  pub read_past : (r : Option NamesLine) → MatchOption r (NoNames front) (FirstLine front) → MatchOption r (NoNames text) (FirstLine text)
  read_past None n = none_past n
  read_past (Some l) f = first_past l f

-- ---- the names one after another

-- the bytes of words, and one after each
abbrev pub filled : List (List ℕ) → ℕ
filled [] = 0
filled (w ∷ ws) = length w + 1 + filled ws

-- so many bytes has line 1 with its byte 10, or one more than the text where no byte 10 stands
abbrev Ending : List ℕ → ℕ → Type 0
Ending t n =
    ((e : ℕ) × FirstOf (λ b. b ≡ 10) t e × (n ≡ e + 1)) ⊎ (NoneOf (λ b. b ≡ 10) t × (n ≡ length t + 1))

ending_later : (b : ℕ) (t : List ℕ) (n : ℕ) → (b ≡ 10 → ⊥) → Ending t n → Ending (b ∷ t) (suc n)
ending_later b t n h (inl (e, f, z)) =
    inl (suc e, record { within = omega (arith, f.within); is = f.is; before = go }, omega arith)
  where
    go : (k : ℕ) → k < suc e → get_or (b ∷ t) k 0 ≡ 10 → ⊥
    go zero l = h
    go (suc k) l = f.before k (omega arith)
ending_later b t n h (inr (f, z)) = inr (go, omega arith)
  where
    go : (k : ℕ) → k < length (b ∷ t) → get_or (b ∷ t) k 0 ≡ 10 → ⊥
    go zero l = h
    go (suc k) l = f k (omega arith)

filled_ends : (cur t : List ℕ) → (n : ℕ) × Ending t n × (filled (words_from cur t) ≡ length cur + n)
filled_ends cur [] = (1, inr ((λ k l z. omega arith), omega arith), omega arith)
filled_ends cur (b ∷ t) =
    ⊎_elim
    (λ (h : b ≡ 10). (
      1,
      inl (0, record { within = omega arith; is = h; before = λ k l z. omega arith }, omega arith),
      ap filled (word_last cur t b h) ∙ omega arith,
    ))
    (λ (h : b ≡ 10 → ⊥). ⊎_elim
    (λ (k : b ≡ 32).
    let m = filled_ends [] t in
    (suc m.0, ending_later b t m.0 h m.1, ap filled (word_space cur t b k) ∙ omega (arith, m.2)))
    (λ (k : b ≡ 32 → ⊥).
    let m = filled_ends (cur ++ b ∷ []) t in
    (suc m.0, ending_later b t m.0 h m.1, ap filled (word_more cur t b k h) ∙ omega (arith, m.2, length-append cur (b ∷ []))))
    (cases_eq b 32))
    (cases_eq b 10)

-- the names that are read, with the words ws left
pub record Naming (text : List ℕ) (count size : ℕ) (ws : List (List ℕ)) : Type 0 where
  pub count_is : count + length ws ≡ length (words text)
  pub size_is : size + filled ws ≡ filled (words text)
  pub few : count ≤ most_names
  pub short : size ≤ 17 * count
  pub all : AllByRecursion Name ws → AllByRecursion Name (words text)
  pub each : AllByRecursion Name (words text) → AllByRecursion Name ws

module _ (text : List ℕ) where
  pub naming_start : (ws : List (List ℕ)) → ws ≡ words text → Naming text 0 0 ws
  naming_start ws e = record {
    count_is = omega (arith, ap length e);
    size_is = omega (arith, ap filled e);
    few = omega arith;
    short = omega arith;
    all = subst (AllByRecursion Name) e;
    each = subst (AllByRecursion Name) (sym e);
  }

  module _ (count size : ℕ) (w : List ℕ) (ws : List (List ℕ)) (r : Naming text count size (w ∷ ws)) where
    pub naming_more : (count ≡ most_names → ⊥) → Name w → Naming text (count + 1) (size + (length w + 1)) ws
    naming_more h n = record {
      count_is = omega (arith, r.count_is);
      size_is = omega (arith, r.size_is);
      few = omega (arith, r.few);
      short = omega (arith, r.short, n.few);
      all = λ a. r.all (n, a);
      each = λ a. (r.each a).1;
    }

    pub naming_many : count ≡ most_names → NoNames text
    naming_many h = too_many text (omega (arith, r.count_is))

    pub naming_wrong : (Name w → ⊥) → NoNames text
    naming_wrong n = no_names text (λ a. n (r.each (All-from_get_or Name (words text) [] (λ k h. a k [] h))).0)

  module _ (count size : ℕ) (r : Naming text count size []) where
    each_name : All Name (words text)
    each_name k d h = All-get_or Name (words text) k d h (r.all tt)

    pub naming_end : size ≤ length text → FirstLine text (record { count = count; size = size })
    naming_end h =
        let m = filled_ends [] text in
        ⊎_elim
        (λ (y : (e : ℕ) × FirstOf (λ b. b ≡ 10) text e × (m.0 ≡ e + 1)).
        let z : y.0 + 1 ≡ size = omega (arith, y.2, m.2, r.size_is) in
        subst (λ n. FirstLine text (record { count = count; size = n })) z
        (names_read text y.0 count y.1 (omega (arith, r.count_is)) r.few each_name))
        (λ (y : NoneOf (λ b. b ≡ 10) text × (m.0 ≡ length text + 1)). absurd (omega (arith, y.1, m.2, r.size_is)))
        m.1

    pub naming_open : (size ≤ length text → ⊥) → NoNames text
    naming_open h =
        let m = filled_ends [] text in
        ⊎_elim
        (λ (y : (e : ℕ) × FirstOf (λ b. b ≡ 10) text e × (m.0 ≡ e + 1)). absurd (omega (arith, y.1.within, y.2, m.2, r.size_is)))
        (λ (y : NoneOf (λ b. b ≡ 10) text × (m.0 ≡ length text + 1)). no_line text y.0)
        m.1

-- ---- a word that stands twice

-- what looking for a word among others tells
pub lacks_from : (ws : List (List ℕ)) (w : List ℕ) (r : Bool)
    → MatchBool r ((k : ℕ) × (k < length ws) × HoldsAt (λ x. x ≡ w) ws k) (AllWithin (λ x. x ≢ w) ws 0 (length ws))
    → MatchBool r (Lacks ws w → ⊥) (Lacks ws w)
lacks_from ws w true at = λ l. l at.0 at.1 (at.2 [])
lacks_from ws w false none = λ i h. none i [] (omega arith) h

module _ (w : List ℕ) (ws : List (List ℕ)) where
  -- the first word stands once, and none of the others twice
  pub apart_first : Apart (w ∷ ws) → Lacks ws w
  apart_first a = λ i h e. a 0 (suc i) (omega arith) (omega arith) (sym e)

  pub apart_rest : Apart (w ∷ ws) → Apart ws
  apart_rest a = λ i k l h. a (suc i) (suc k) (omega arith) (omega arith)

  pub apart_cons : Lacks ws w → Apart ws → Apart (w ∷ ws)
  apart_cons l a zero zero o h = absurd (omega arith)
  apart_cons l a zero (suc k) o h = λ e. l k (omega arith) (sym e)
  apart_cons l a (suc i) zero o h = absurd (omega arith)
  apart_cons l a (suc i) (suc k) o h = a i k (omega arith) (omega arith)

pub apart_none : Apart []
apart_none i k l h = absurd (omega arith)
