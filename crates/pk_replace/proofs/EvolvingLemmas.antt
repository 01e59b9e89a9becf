-- A replacement, whatever it answers, lets the bytes evolve: the spare gate is shut, the writer writes, and the body takes force.
use Rattle.std.proofs.Common.{◌≡◌, ◌⊎◌, inl, inr, ℕ, ◌+◌, ◌<◌, ◌≤◌, ◌==◌, ◌||◌, ◌∷◌, [], Bool, true, false, List, length, get_or, refl, sym, ◌∙◌, ap, subst, arith, Result, Ok, Err}
use Rattle.std.specs.Prelude.{Some}
use Rattle.std.proofs.lemmas.Bool.{cases_Bool, eqb-true}
use Rattle.pk_disk.specs.Disk.{IsChangedOnly, in_range, opened, written}
use Rattle.pk_disk.proofs.Ranges.{length-written, outside_range}
use Rattle.pk_manifest.specs.declared.half.Half.{Half}
use Rattle.pk_manifest.specs.declared.half.Half.TheVariants.{A, B}
use Rattle.pk_manifest.specs.Bodies.{body_of, body_place, gate_place, generation_of, half_in_force, has_open_gate, other}
use Rattle.pk_manifest.specs.Evolves.{Evolves, is_claimed, is_of, stamp}
use Rattle.pk_manifest.specs.Firm.{IsFar, IsFirm, IsShut, half_places}
use Rattle.pk_manifest.specs.Moves.{IsOpening}
use Rattle.pk_manifest.specs.Written.{DiffersIn, IsUnfinished}
use Rattle.pk_manifest.proofs.Evolving.{evolves_then, kept_claims}
use Rattle.pk_manifest.proofs.Far.{after_far, far_body, far_gate}
use Rattle.pk_manifest.proofs.Firm.{behind_shut, behind_there, body_ends, gate_low}
use Rattle.pk_manifest.proofs.Moves.{forced_is, opening_evolves, preparing_evolves, same_stamp, shutting_evolves}
use Rattle.pk_manifest.proofs.Written.{differs_written}
use Rattle.pk_replace.specs.declared.stream.StreamFault.{StreamFault}
use Rattle.pk_replace.specs.declared.stream.StreamFault.TheVariants.{Read, Write, Damaged}
use Rattle.pk_replace.specs.Course.{touched_by}
use Rattle.pk_replace.specs.Evolving.{EvolvesBy, HasWholeStamp, IsBeside}

-- nothing that is written is claimed by the half in force
abbrev IsApart : List ℕ → Half → (ℕ → Bool) → Type 0
IsApart bytes spare touched = (p : ℕ) → touched_by spare touched p ≡ true → is_claimed bytes (other spare) p ≡ false

-- The bytes evolved, the half in force claims what it did, and no generation changed.
record IsMoved (old new : List ℕ) (spare : Half) : Type 0 where
  pub evolves : Evolves old new
  pub claims : (p : ℕ) → is_claimed new (other spare) p ≡ is_claimed old (other spare) p
  pub stamps : (half : Half) → stamp new half ≡ stamp old half

moved : (old new : List ℕ) (spare : Half) → Evolves old new → half_in_force old ≡ Some (other spare) → half_in_force new ≡ Some (other spare) → ((half : Half) → stamp new half ≡ stamp old half) → IsMoved old new spare
moved old new spare evolves before after stamps =
    let h = other spare in
    let was = forced_is old h before in
    let now = forced_is new h after in
    let kept = evolves.gates h now.gate (omega (arith, stamps h, was.is)) in
    record { evolves = evolves; claims = kept_claims old new h kept; stamps = stamps }

apart_then : (old new : List ℕ) (spare : Half) (touched : ℕ → Bool) → IsMoved old new spare → IsApart old spare touched → IsApart new spare touched
apart_then old new spare touched step apart p at = step.claims p ∙ apart p at

-- what is written: the spare gate, the spare body, and what the writer touches
own_gate : (spare : Half) (touched : ℕ → Bool) → touched_by spare touched (gate_place spare) ≡ true
own_gate A touched = refl
own_gate B touched = refl

one_of_two : (a b t : Bool) → b ≡ true → ((a || b) || t) ≡ true
one_of_two true b t is = refl
one_of_two false b t is = rw is refl

own_body : (spare : Half) (touched : ℕ → Bool) (p : ℕ) → in_range (body_place spare) 8192 p ≡ true → touched_by spare touched p ≡ true
own_body spare touched p at = one_of_two (in_range (gate_place spare) 1 p) (in_range (body_place spare) 8192 p) (touched p) at

the_last : (a t : Bool) → t ≡ true → (a || t) ≡ true
the_last true t is = refl
the_last false t is = is

either : (a b : Bool) → (a || b) ≡ true → (a ≡ true) ⊎ (b ≡ true)
either true b is = inl refl
either false b is = inr is

not_gate : (place p : ℕ) → (p ≡ place → ⊥) → (p < place) ⊎ (place + 1 ≤ p)
not_gate place p isnt = grind (arith, isnt)

beside_gate : (spare : Half) (p : ℕ) → (p ≡ gate_place spare → ⊥) → in_range (gate_place spare) 1 p ≡ false
beside_gate spare p isnt = outside_range (gate_place spare) 1 p (not_gate (gate_place spare) p isnt)

body_high : (half : Half) → 1024 ≤ body_place half
body_high A = omega arith
body_high B = omega arith

gate_under : (half : Half) → gate_place half < 1024
gate_under A = omega arith
gate_under B = omega arith

-- BEHIND A SHUT GATE, beside what the half in force claims.
module _ (old new : List ℕ) (spare : Half) (touched t : ℕ → Bool) (differs : DiffersIn t old new) (forced : half_in_force old ≡ Some (other spare)) (shut : has_open_gate old spare ≡ false)
    (within : (p : ℕ) → t p ≡ true → touched_by spare touched p ≡ true) (gates : (half : Half) → t (gate_place half) ≡ false) (apart : IsApart old spare touched) where
  keeps_of : (p : ℕ) → is_of old (other spare) p ≡ true → get_or new p 0 ≡ get_or old p 0
  keeps_of p is = differs.same p (elim (cases_Bool (t p)) [
    | inl touches ↦ absurd (elim (either (p == gate_place (other spare)) (is_claimed old (other spare) p) is) [
      | inl at ↦ (let both : true ≡ false = sym touches ∙ ap t (eqb-true _ _ at) ∙ gates (other spare) in cc)
      | inr claimed ↦ (let both : true ≡ false = sym claimed ∙ apart p (within p touches) in cc)
    ])
    | inr free ↦ free
  ])

  prepared : (stamp new spare ≡ stamp old spare) ⊎ (stamp new spare ≡ stamp old (other spare) + 1) → Evolves old new
  prepared next = preparing_evolves spare old new (record {
    size = differs.size;
    forced = forced;
    shut = shut;
    still = ap (λ (b : ℕ). b == 167) (differs.same (gate_place spare) (gates spare)) ∙ shut;
    keeps = keeps_of;
    next = next;
  })

-- THE BODY, behind the shut gate, and then the gate over it.
module _ (put : List ℕ) (o : ℕ → Bool) (spare : Half) (touched : ℕ → Bool) (body : List ℕ) (fits : 17408 ≤ length put) (long : length body ≡ 8192) (firm : IsFirm put o spare) (shut : has_open_gate put spare ≡ false)
    (apart : IsApart put spare touched) (next : generation_of body ≡ stamp put (other spare) + 1) where
  no_gate : (half : Half) → in_range (body_place spare) 8192 (gate_place half) ≡ false
  no_gate half = outside_range (body_place spare) 8192 (gate_place half) (inl (omega (arith, gate_under half, body_high spare)))

  -- a part of it
  part_put : (new : List ℕ) → DiffersIn (in_range (body_place spare) 8192) put new → (stamp new spare ≡ stamp put spare) ⊎ (stamp new spare ≡ generation_of body) → Evolves put new
  part_put new differs whole = prepared put new spare touched (in_range (body_place spare) 8192) differs firm.in_force shut (own_body spare touched) no_gate apart (elim whole [
    | inl same ↦ inl same
    | inr is ↦ inr (is ∙ next)
  ])

  with_body : List ℕ
  with_body = written put (body_place spare) body

  all_put : Evolves put with_body
  unfolding with_body
  all_put = part_put (written put (body_place spare) body)
      (subst (λ (n : ℕ). DiffersIn (in_range (body_place spare) n) put (written put (body_place spare) body)) long
      (differs_written put (written put (body_place spare) body) (body_place spare) body (omega (arith, long, body_ends spare, fits)) refl))
      (inr (ap generation_of (behind_there put o spare firm fits body long (written put (body_place spare) body) refl)))

  is_put : IsShut with_body (opened o (body_place spare) 8192) spare (body_of put (other spare))
  unfolding with_body
  is_put = behind_shut put o spare firm fits shut body long (written put (body_place spare) body) (opened o (body_place spare) 8192) refl refl

  new_stamp : stamp with_body spare ≡ stamp put (other spare) + 1
  unfolding with_body
  new_stamp = ap generation_of (behind_there put o spare firm fits body long (written put (body_place spare) body) refl) ∙ next

  claims_put : (p : ℕ) → is_claimed with_body (other spare) p ≡ is_claimed put (other spare) p
  claims_put =
      let h = other spare in
      let was = forced_is put h firm.in_force in
      let now = forced_is with_body h is_put.firm.in_force in
      let same : stamp with_body h ≡ stamp put h = ap generation_of is_put.body_is in
      let kept = all_put.gates h now.gate (omega (arith, same, was.is)) in
      kept_claims put with_body h kept

  opened_over : (new : List ℕ) → DiffersIn (in_range (gate_place spare) 1) with_body new → Evolves put new
  opened_over new differs =
      let same : stamp with_body (other spare) ≡ stamp put (other spare) = ap generation_of is_put.body_is in
      let last : IsOpening spare with_body new = record {
        size = differs.size;
        forced = is_put.firm.in_force;
        shut = is_put.shut;
        apart = claims_put (gate_place spare) ∙ apart (gate_place spare) (own_gate spare touched);
        only = λ p isnt. differs.same p (beside_gate spare p isnt);
        greater = omega (arith, new_stamp, same);
      } in
      evolves_then put with_body new all_put (opening_evolves spare with_body new last)

  pub taken : (new : List ℕ) → DiffersIn (in_range (gate_place spare) 1) (written put (body_place spare) body) new → Evolves put new
  unfolding with_body
  taken new differs = opened_over new differs

  pub stopped : (new : List ℕ) → IsUnfinished spare body put new → (stamp new spare ≡ stamp put spare) ⊎ (stamp new spare ≡ generation_of body) → Evolves put new
  stopped new (inl differs) whole = part_put new differs whole
  stopped new (inr differs) whole = taken new differs

-- THE WHOLE REPLACEMENT, from bytes old over shut and put.
module _ (old : List ℕ) (o : ℕ → Bool) (spare : Half) (touched : ℕ → Bool) (body : List ℕ) (fits : 17408 ≤ length old) (long : length body ≡ 8192) (firm : IsFirm old o spare) (beside : IsBeside old spare touched body)
    (shut : List ℕ) (only : DiffersIn (in_range (gate_place spare) 1) old shut) (shuts : has_open_gate shut spare ≡ true → has_open_gate old spare ≡ true) where
  same_but : (p : ℕ) → (p ≡ gate_place spare → ⊥) → get_or shut p 0 ≡ get_or old p 0
  same_but p isnt = only.same p (beside_gate spare p isnt)

  pub until_shut : Evolves old shut
  until_shut = shutting_evolves spare old shut (record {
    size = only.size;
    forced = firm.in_force;
    apart = beside.apart (gate_place spare) (own_gate spare touched);
    only = same_but;
    shuts = shuts;
  })

  module _ (o1 : ℕ → Bool) (is_shut : IsShut shut o1 spare (body_of old (other spare))) (put : List ℕ) (o2 : ℕ → Bool) (far : IsFar touched) (changed : IsChangedOnly shut o1 touched put o2) where
    first : IsMoved old shut spare
    first = moved old shut spare until_shut firm.in_force is_shut.firm.in_force (same_stamp spare old shut only.size same_but)

    firm2 : IsFirm put o2 spare
    firm2 = after_far shut o1 spare is_shut.firm touched far put o2 changed

    shut2 : has_open_gate put spare ≡ false
    shut2 = far_gate shut o1 spare is_shut.firm touched far put o2 changed spare ∙ is_shut.shut

    second : IsMoved shut put spare
    second = moved shut put spare
        (prepared shut put spare touched touched (record { size = changed.size; same = changed.same }) is_shut.firm.in_force is_shut.shut (λ p is. the_last (half_places spare p) (touched p) is)
        (λ half. far (gate_place half) (omega (arith, gate_low half))) (apart_then old shut spare touched first beside.apart) (inl (same spare)))
        is_shut.firm.in_force firm2.in_force same
      where
        same : (half : Half) → stamp put half ≡ stamp shut half
        same half = ap generation_of (far_body shut o1 spare is_shut.firm touched far put o2 changed half)

    pub until_put : Evolves old put
    until_put = evolves_then old shut put first.evolves second.evolves

    stamps : (half : Half) → stamp put half ≡ stamp old half
    stamps half = second.stamps half ∙ first.stamps half

    apart2 : IsApart put spare touched
    apart2 = apart_then shut put spare touched second (apart_then old shut spare touched first beside.apart)

    next2 : generation_of body ≡ stamp put (other spare) + 1
    next2 = beside.generation ∙ ap (λ (n : ℕ). n + 1) (sym (stamps (other spare)))

    fits2 : 17408 ≤ length put
    fits2 = omega (arith, fits, only.size, changed.size)

    pub until_taken : (new : List ℕ) → new ≡ written (written put (body_place spare) body) (gate_place spare) (167 ∷ []) → Evolves old new
    until_taken new wrote =
        let with_body = written put (body_place spare) body in
        let size : length with_body ≡ length put = length-written put (body_place spare) body (omega (arith, long, body_ends spare, fits2)) in
        let differs = differs_written with_body new (gate_place spare) (167 ∷ []) (omega (arith, gate_under spare, size, fits2)) wrote in
        evolves_then old put new until_put (taken put o2 spare touched body fits2 long firm2 shut2 apart2 next2 new differs)

    pub until_stopped : (new : List ℕ) → IsUnfinished spare body put new → HasWholeStamp old new spare body → Evolves old new
    until_stopped new part whole = evolves_then old put new until_put (stopped put o2 spare touched body fits2 long firm2 shut2 apart2 next2 new part (elim whole [
      | inl same ↦ inl (same ∙ sym (stamps spare))
      | inr is ↦ inr is
    ]))

-- whatever stopped it
pub evolves_any : {T : Type 0} (r : Result T StreamFault) (old new : List ℕ) (spare : Half) (body : List ℕ) → Evolves old new → EvolvesBy r old new spare body
evolves_any (Ok v) old new spare body is = is
evolves_any (Err Read) old new spare body is = is
evolves_any (Err Write) old new spare body is = λ whole. is
evolves_any (Err Damaged) old new spare body is = is
