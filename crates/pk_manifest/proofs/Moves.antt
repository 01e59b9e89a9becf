-- A program that keeps the rule of gates and bodies lets the file evolve.
use Rattle.std.proofs.Common.{◌≡◌, ◌⊎◌, inl, inr, ℕ, zero, suc, ◌≤◌, ◌==◌, ◌||◌, Bool, true, false, List, length, get_or, refl, sym, ◌∙◌, ap, subst, arith}
use Rattle.std.specs.Prelude.{Some, None, Option, nat_lt, if◌then◌else◌}
use Rattle.std.proofs.lemmas.Bool.{eqb-true, cases_Bool}
use Rattle.std.proofs.lemmas.Bool.Decides.{nat_tests}
use Rattle.pk_disk.proofs.Images.{same_part}
use Rattle.pk_manifest.specs.declared.half.Half.{Half}
use Rattle.pk_manifest.specs.declared.half.Half.TheVariants.{A, B}
use Rattle.pk_manifest.specs.Bodies.{body_place, gate_place, generation_of, half_in_force, half_of, has_open_gate, other}
use Rattle.pk_manifest.specs.Evolves.{AreTold, Evolves, IsNextStamp, Keeps, WasOpen, force_of, in_force, is_claimed, stamp}
use Rattle.pk_manifest.specs.Moves.{IsMaking, IsOpening, IsPreparing, IsShutting, IsMove, Moves}
use Rattle.pk_manifest.proofs.Evolving.{evolves_here, evolves_then, keeps_stamp, open_below, open_kept}

-- what is known of a half in force
pub record IsForced (bytes : List ℕ) (half : Half) : Type 0 where
  pub gate : has_open_gate bytes half ≡ true
  pub is : in_force bytes ≡ stamp bytes half

both_halves : (x : Option Half) → x ≡ Some A → x ≡ Some B → ⊥
both_halves x a b = cc (a, b)

one_and_none : (x : Option Half) (h : Half) → x ≡ Some h → x ≡ None → ⊥
one_and_none x h some none = cc (some, none)

greater_b : (t : Bool) (m n : ℕ) → (if t then Some B else Some A) ≡ Some B → (if t then n else m) ≡ n
greater_b true m n is = refl
greater_b false m n is = absurd (both_halves (Some A) refl is)

greater_a : (t : Bool) (m n : ℕ) → (if t then Some B else Some A) ≡ Some A → (if t then n else m) ≡ m
greater_a true m n is = absurd (both_halves (Some B) is refl)
greater_a false m n is = refl

greater_none : (t : Bool) (m n : ℕ) → (if t then Some B else Some A) ≡ None → (if t then n else m) ≡ 0
greater_none true m n is = absurd (one_and_none (Some B) B refl is)
greater_none false m n is = absurd (one_and_none (Some A) A refl is)

forced_b : (a b : Bool) (m n : ℕ) → half_of a b m n ≡ Some B → (b ≡ true) × (force_of a b m n ≡ n)
forced_b true true m n is = (refl, greater_b (nat_lt m n) m n is)
forced_b true false m n is = absurd (both_halves (Some A) refl is)
forced_b false true m n is = (refl, refl)
forced_b false false m n is = absurd (one_and_none None B is refl)

forced_a : (a b : Bool) (m n : ℕ) → half_of a b m n ≡ Some A → (a ≡ true) × (force_of a b m n ≡ m)
forced_a true true m n is = (refl, greater_a (nat_lt m n) m n is)
forced_a true false m n is = (refl, refl)
forced_a false true m n is = absurd (both_halves (Some B) is refl)
forced_a false false m n is = absurd (one_and_none None A is refl)

pub forced_is : (bytes : List ℕ) (half : Half) → half_in_force bytes ≡ Some half → IsForced bytes half
unfolding in_force
forced_is bytes A is = let both = forced_a (has_open_gate bytes A) (has_open_gate bytes B) (stamp bytes A) (stamp bytes B) is in record { gate = both.0; is = both.1 }
forced_is bytes B is = let both = forced_b (has_open_gate bytes A) (has_open_gate bytes B) (stamp bytes A) (stamp bytes B) is in record { gate = both.0; is = both.1 }

none_b : (a b : Bool) (m n : ℕ) → half_of a b m n ≡ None → force_of a b m n ≡ 0
none_b true true m n is = greater_none (nat_lt m n) m n is
none_b true false m n is = absurd (one_and_none (Some A) A refl is)
none_b false true m n is = absurd (one_and_none (Some B) B refl is)
none_b false false m n is = refl

none_is : (bytes : List ℕ) → half_in_force bytes ≡ None → in_force bytes ≡ 0
unfolding in_force
none_is bytes is = none_b (has_open_gate bytes A) (has_open_gate bytes B) (stamp bytes A) (stamp bytes B) is

-- gates and bodies lie apart
gates_apart : (spare : Half) → gate_place (other spare) ≡ gate_place spare → ⊥
gates_apart A = λ e. absurd (omega (arith, e))
gates_apart B = λ e. absurd (omega (arith, e))

body_past : (half spare : Half) (p : ℕ) → body_place half ≤ p → p ≡ gate_place spare → ⊥
body_past A A = λ p le e. absurd (omega (arith, le, e))
body_past A B = λ p le e. absurd (omega (arith, le, e))
body_past B A = λ p le e. absurd (omega (arith, le, e))
body_past B B = λ p le e. absurd (omega (arith, le, e))

-- where a gate alone is written, no generation changes
module _ (spare : Half) (old new : List ℕ) (size : length new ≡ length old) (only : (p : ℕ) → (p ≡ gate_place spare → ⊥) → get_or new p 0 ≡ get_or old p 0) where
  pub same_stamp : (half : Half) → stamp new half ≡ stamp old half
  same_stamp half = ap generation_of (same_part new old (body_place half) 8192 size (λ p low high. only p (body_past half spare p low)))

  same_gate : has_open_gate new (other spare) ≡ has_open_gate old (other spare)
  same_gate = ap (λ (b : ℕ). b == 167) (only (gate_place (other spare)) (gates_apart spare))

  keeps_other : is_claimed old (other spare) (gate_place spare) ≡ false → Keeps old new (other spare)
  keeps_other apart p claimed = only p (λ at. absurd (let both : true ≡ false = sym claimed ∙ ap (is_claimed old (other spare)) at ∙ apart in cc))

-- the half that was in force still is open behind its generation
module _ (spare : Half) (old new : List ℕ) (forced : half_in_force old ≡ Some (other spare)) (gate : has_open_gate new (other spare) ≡ true) (same : stamp new (other spare) ≡ stamp old (other spare)) where
  still_rises : in_force old ≤ in_force new
  still_rises =
      let was : in_force old ≡ stamp old (other spare) = (forced_is old (other spare) forced).is in
      let low : stamp new (other spare) ≤ in_force new = open_below new (other spare) gate in
      omega (arith, was, low, same)

pub by_half : (spare half : Half) → (half ≡ spare) ⊎ (half ≡ other spare)
by_half A A = inl refl
by_half A B = inr refl
by_half B A = inr refl
by_half B B = inl refl

-- for one of the two halves it is enough
told_from : (bytes : List ℕ) (spare : Half) → (has_open_gate bytes spare ≡ true → has_open_gate bytes (other spare) ≡ true → stamp bytes spare ≡ stamp bytes (other spare) → ⊥) → AreTold bytes
told_from bytes A none A = none
told_from bytes A none B = λ b a e. none a b (sym e)
told_from bytes B none A = λ a b e. none b a (sym e)
told_from bytes B none B = none

pub shutting_evolves : (spare : Half) (old new : List ℕ) → IsShutting spare old new → Evolves old new
shutting_evolves spare old new step =
    let forced = forced_is old (other spare) step.forced in
    let same = same_stamp spare old new step.size step.only in
    let gate : has_open_gate new (other spare) ≡ true = same_gate spare old new step.size step.only ∙ forced.gate in
    record {
      size = omega (arith, step.size);
      rises = still_rises spare old new step.forced gate (same (other spare));
      stamps = λ half. inl (same half);
      gates = λ half is low. elim (by_half spare half) [
        | inl at ↦
            let now : has_open_gate new spare ≡ true = ap (has_open_gate new) (sym at) ∙ is in
            let was : has_open_gate old spare ≡ true = step.shuts now in
            let byte : get_or new (gate_place spare) 0 ≡ get_or old (gate_place spare) 0 = eqb-true _ _ now ∙ sym (eqb-true _ _ was) in
            open_kept old new half step.size (λ p claimed. all_same spare old new step.only byte p) (ap (has_open_gate old) at ∙ was)
        | inr at ↦ subst (λ (h : Half). WasOpen old new h) (sym at) (open_kept old new (other spare) step.size (keeps_other spare old new step.size step.only step.apart) forced.gate)
      ];
      told = λ told. told_from new spare (λ a b e.
          told spare (step.shuts a) (sym (same_gate spare old new step.size step.only) ∙ b) (sym (same spare) ∙ e ∙ same (other spare)));
    }
  where
    all_same : (spare : Half) (old new : List ℕ) → ((p : ℕ) → (p ≡ gate_place spare → ⊥) → get_or new p 0 ≡ get_or old p 0) → get_or new (gate_place spare) 0 ≡ get_or old (gate_place spare) 0 → (p : ℕ) → get_or new p 0 ≡ get_or old p 0
    all_same spare old new only byte p = elim (cases_Bool (p == gate_place spare)) [
      | inl is ↦ let at : p ≡ gate_place spare = eqb-true _ _ is in ap (λ (k : ℕ). get_or new k 0) at ∙ byte ∙ ap (λ (k : ℕ). get_or old k 0) (sym at)
      | inr isnt ↦ only p (λ at. grind (arith, nat_tests, at, isnt))
    ]

pub preparing_evolves : (spare : Half) (old new : List ℕ) → IsPreparing spare old new → Evolves old new
preparing_evolves spare old new step =
    let h = other spare in
    let forced = forced_is old h step.forced in
    let keeps : Keeps old new h = λ p claimed. step.keeps p (right_true (p == gate_place h) (is_claimed old h p) claimed) in
    let byte : get_or new (gate_place h) 0 ≡ get_or old (gate_place h) 0 = step.keeps (gate_place h) (left_true (gate_place h == gate_place h) (is_claimed old h (gate_place h)) (grind (arith, nat_tests))) in
    let gate : has_open_gate new h ≡ true = ap (λ (b : ℕ). b == 167) byte ∙ forced.gate in
    let same : stamp new h ≡ stamp old h = keeps_stamp old new h step.size keeps in
    let up : in_force old ≤ in_force new = still_rises spare old new step.forced gate same in
    record {
      size = omega (arith, step.size);
      rises = up;
      stamps = λ half. elim (by_half spare half) [
        | inl at ↦ subst (λ (k : Half). (stamp new k ≡ stamp old k) ⊎ IsNextStamp old new (stamp new k)) (sym at) (elim step.next [
          | inl stays ↦ inl stays
          | inr next ↦ inr (omega (arith, next, forced.is), omega (arith, next, forced.is, up))
        ])
        | inr at ↦ subst (λ (k : Half). (stamp new k ≡ stamp old k) ⊎ IsNextStamp old new (stamp new k)) (sym at) (inl same)
      ];
      gates = λ half is low. elim (by_half spare half) [
        | inl at ↦ absurd (let both : true ≡ false = sym is ∙ ap (has_open_gate new) at ∙ step.still in cc)
        | inr at ↦ subst (λ (k : Half). WasOpen old new k) (sym at) (open_kept old new h step.size keeps forced.gate)
      ];
      told = λ told. told_from new spare (λ a b e. (let both : true ≡ false = sym a ∙ step.still in cc));
    }
  where
    left_true : (a b : Bool) → a ≡ true → (a || b) ≡ true
    left_true a b is = rw is refl

    right_true : (a b : Bool) → b ≡ true → (a || b) ≡ true
    right_true true b is = refl
    right_true false b is = is

pub opening_evolves : (spare : Half) (old new : List ℕ) → IsOpening spare old new → Evolves old new
opening_evolves spare old new step =
    let forced = forced_is old (other spare) step.forced in
    let same = same_stamp spare old new step.size step.only in
    let gate : has_open_gate new (other spare) ≡ true = same_gate spare old new step.size step.only ∙ forced.gate in
    record {
      size = omega (arith, step.size);
      rises = still_rises spare old new step.forced gate (same (other spare));
      stamps = λ half. inl (same half);
      gates = λ half is low. elim (by_half spare half) [
        | inl at ↦ absurd (let s : stamp new half ≡ stamp old spare = same half ∙ ap (stamp old) at in omega (arith, s, low, forced.is, step.greater))
        | inr at ↦ subst (λ (h : Half). WasOpen old new h) (sym at) (open_kept old new (other spare) step.size (keeps_other spare old new step.size step.only step.apart) forced.gate)
      ];
      told = λ told. told_from new spare (λ a b e. absurd (omega (arith, e, same spare, same (other spare), step.greater)));
    }

making_evolves : (old new : List ℕ) → IsMaking old new → Evolves old new
making_evolves old new step =
    let none : in_force old ≡ 0 = none_is old step.none in
    record {
      size = omega (arith, step.size);
      rises = omega (arith, none);
      stamps = λ half. elim (step.first half) [
        | inl same ↦ inl same
        | inr one ↦ inr (omega (arith, none, one), omega (arith, one))
      ];
      gates = λ half is low. absurd (let some : 1 ≤ stamp new half = step.opened half is in omega (arith, some, low, none));
      told = λ told. step.told;
    }

pub move_evolves : (old new : List ℕ) → IsMove old new → Evolves old new
move_evolves old new (inl s) = shutting_evolves s.0 old new s.1
move_evolves old new (inr (inl s)) = preparing_evolves s.0 old new s.1
move_evolves old new (inr (inr (inl s))) = opening_evolves s.0 old new s.1
move_evolves old new (inr (inr (inr s))) = making_evolves old new s

pub moves_evolve : (n : ℕ) (old new : List ℕ) → Moves n old new → Evolves old new
moves_evolve zero old new same = subst (λ (l : List ℕ). Evolves old l) (sym same) (evolves_here old)
moves_evolve (suc n) old new steps = evolves_then old steps.0 new (move_evolves old steps.0 steps.1) (moves_evolve n steps.0 new steps.2)
