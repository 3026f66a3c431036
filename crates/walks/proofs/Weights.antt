-- Why a walk ends: its records, read as the digits of a number, fall in weight.
use Rattle.std.proofs.Common.{◌≡◌, ℕ, zero, suc, ◌+◌, ◌-◌, ◌*◌, ◌^◌, ◌<◌, ◌≤◌, true, not, eqb, List, [], ◌∷◌, length, Some, Option, subst, sym, refl, ap, ◌∙◌, mul-le-mul_right, mul_assoc, add-mul, mul-lt-mul_of_pos_right, one-mul, arith}
use native.Mathlib.Nat.{pow-succ', pow-zero}
use Rattle.std.specs.Option.{option_map_or}
use Rattle.std.proofs.lemmas.Bool.{both_ways}
use Rattle.atoms.specs.Atoms.{bits, width}
use Rattle.atoms.specs.declared.AtomSet.{AtomSet}
use Rattle.atoms.proofs.Values.{bits_below}
use Rattle.walks.specs.Branches.{narrowed, Live}
use Rattle.walks.specs.Walks.{Advanced, stack}
use Rattle.walks.specs.Walks.Advanced.{over, next, pop}
use Rattle.walks.specs.declared.Walk.{Walk}
use Rattle.walks.specs.declared.branches.Branch.{Branch}
use Rattle.walks.specs.declared.paths.Path.{Path}
use Rattle.walks.proofs.Records.{each_pop, each_top, short}

-- a base above any set
abbrev base : ℕ
base = 2 ^ width + 1

-- what the records say as digits, the top one the least significant
abbrev value : List Branch → ℕ
value [] = 0
value (b ∷ below) = value below * base + bits b.left

abbrev power : ℕ → ℕ
power l = base ^ (width - l)

-- a record that is not there counts as one with more than any set
abbrev weight : List Branch → ℕ
weight st = (value st + 1) * power (length st)

power_pos : (k : ℕ) → 0 < base ^ k
power_pos zero = rw (pow-zero base) (omega arith)
power_pos (suc k) =
    let p = power_pos k in
    let q : 1 * base ^ k ≤ base * base ^ k = mul-le-mul_right (base ^ k) (omega arith) in
    rw (pow-succ' base k) (omega (arith, one-mul (base ^ k)))

power_cons : (l : ℕ) → l < width → power l ≡ base * power (suc l)
power_cons l h = let e : width - l ≡ suc (width - suc l) = omega arith in ap (λ (k : ℕ). base ^ k) e ∙ pow-succ' base (width - suc l)

-- the algebra, over any base and power
push_less : (v B d P : ℕ) → d + 1 < B → 0 < P → (v * B + d + 1) * P < (v + 1) * (B * P)
push_less v B d P h p =
    let e : (v + 1) * B ≡ v * B + B = omega (arith, add-mul v 1 B, one-mul B) in
    rw (← mul_assoc (v + 1) B P) (mul-lt-mul_of_pos_right (omega (arith, e)) p)

floor_less : (v B d P : ℕ) → v * (B * P) ≤ (v * B + d) * P
floor_less v B d P = rw (← mul_assoc v B P) (mul-le-mul_right P (omega arith))

below_weight : (v P : ℕ) → 0 < P → v * P < (v + 1) * P
below_weight v P p = mul-lt-mul_of_pos_right (omega arith) p

weight_push : (b : Branch) (st : List Branch) → length st < width → weight (b ∷ st) < weight st
weight_push b st h =
    rw (power_cons (length st) h)
    (push_less (value st) base (bits b.left) (power (suc (length st))) (omega (arith, bits_below b.left)) (power_pos (width - suc (length st))))

-- the least weight of what stands on a stack
abbrev floor : List Branch → ℕ
floor st = value st * power (length st)

floor_weight : (st : List Branch) → floor st < weight st
floor_weight st = below_weight (value st) (power (length st)) (power_pos (width - length st))

floor_cons : (b : Branch) (st : List Branch) → length st < width → floor st ≤ floor (b ∷ st)
floor_cons b st h = rw (power_cons (length st) h) (floor_less (value st) base (bits b.left) (power (suc (length st))))

narrowed_weight : (b : Branch) (x : AtomSet) (st : List Branch) → bits x < bits b.left → weight (narrowed b x ∷ st) ≤ floor (b ∷ st)
narrowed_weight b x st less = mul-le-mul_right (power (suc (length st))) (omega arith)

advanced_weight : (st : List Branch) {st' : List Branch} → length st ≤ width → Live st → Advanced st st' → (length st' ≡ 0 → ⊥) → weight st' ≤ floor st
advanced_weight [] h live over some = absurd (some refl)
advanced_weight (b ∷ below) h live (next x e p) some = narrowed_weight b x below (e.less (each_top (λ c st. 0 < bits c.left) b below live))
advanced_weight (b ∷ below) h live (pop x e p further) some =
    let lt : length below < width = omega arith in
    omega (arith, advanced_weight below (omega arith) (each_pop (λ c st. 0 < bits c.left) b below live) further some, floor_cons b below lt)

abbrev pub measure : Walk → ℕ
measure w = option_map_or (λ p. weight (stack p)) w.path 0

module _ (p p' : Path) where
  pub advance_falls : Advanced (stack p) (stack p') → not (eqb (length (stack p')) 0) ≡ true → weight (stack p') < weight (stack p)
  advance_falls e more =
      let some : length (stack p') ≡ 0 → ⊥ = λ z. both_ways true (sym more ∙ ap (λ n. not (eqb n 0)) z) refl in
      omega (arith, floor_weight (stack p), advanced_weight (stack p) (short (stack p) p.live p.sized p.apart) p.live e some)

  pub push_falls : (b : Branch) → stack p' ≡ b ∷ stack p → length (stack p) < width → weight (stack p') < weight (stack p)
  push_falls b e room = rw e (weight_push b (stack p) room)

pub weight_pos : (p : Path) → 0 < weight (stack p)
weight_pos p = let above = floor_weight (stack p) in omega arith

-- a walk that goes on at the end of a path weighs what the path does
pub measure_at : (w : Walk) (p : Path) (m : ℕ) → w.path ≡ Some p → m < weight (stack p) → m < measure w
measure_at w p m e less = subst (λ (o : Option Path). m < option_map_or (λ q. weight (stack q)) o 0) (sym e) less
