-- What is seen of a file stays seen, and parts of it make the whole.
use Rattle.std.proofs.Common.{◌≡◌, ◌⊎◌, inl, inr, ℕ, ◌+◌, ◌-◌, ◌<◌, ◌≤◌, List, length, get_or, take, drop, sym, ◌∙◌, ap, subst, arith, true, false, eq-eqb}
use Rattle.std.specs.Prelude.{slice_range, IfNone, IfSome, Option, Some, None}
use Rattle.std.specs.Int.{w64}
use Rattle.std.proofs.lemmas.List.{get_or-take, get_or-drop}
use Rattle.pk_manifest.specs.declared.half.Half.{Half}
use Rattle.pk_manifest.specs.declared.half.Half.TheVariants.{A, B}
use Rattle.pk_manifest.specs.Bodies.{body_place, gate_place, generation_of, has_open_gate}
use Rattle.pk_manifest.specs.Fields.{number_at}
use Rattle.pk_manifest.proofs.Windows.{generation_read, range_is}
use Rattle.std.proofs.lemmas.List.{places}
use Rattle.std.proofs.lemmas.Bool.{ne_eqb}
use Rattle.std.proofs.lemmas.Bool.Decides.{nat_tests}
use borrow.Rule.Slice.PartMut.{put_mid}
use Rattle.pk_manifest.specs.Evolves.{Evolves, stamp}
use Rattle.pk_snapshot.specs.Seen.{SawStamp}
use Rattle.pk_snapshot.specs.Shared.{AreSeen, Confirms, IsChosen, SawOther, SawShut, SeenAt, SeenAtOnce}
use Rattle.pk_manifest.proofs.Evolving.{evolves_here, evolves_then}

-- what is seen between two moments is seen between an earlier one and a later one
pub seen_wider : (old mid new late : List ℕ) (p byte : ℕ) → Evolves old mid → SeenAt mid new p byte → Evolves new late → SeenAt old late p byte
seen_wider old mid new late p byte before seen after = record {
  moment = seen.moment;
  since = evolves_then old mid seen.moment before seen.since;
  until = evolves_then seen.moment new late seen.until after;
  is = seen.is;
}

pub once_wider : (old mid new : List ℕ) (at : ℕ) (out : List ℕ) → Evolves old mid → SeenAtOnce mid new at out → SeenAtOnce old new at out
once_wider old mid new at out before seen = record {
  moment = seen.moment;
  since = evolves_then old mid seen.moment before seen.since;
  until = seen.until;
  are = seen.are;
}

pub below_or : (i k : ℕ) → (i < k) ⊎ (k ≤ i)
below_or i k = grind (arith, nat_tests)

put_before : (out sub : List ℕ) (done i : ℕ) → done ≤ length out → i < done → get_or (put_mid done (length out - done) out sub) i 0 ≡ get_or out i 0
put_before out sub done i room lt = grind (arith, places)

put_in : (out sub : List ℕ) (done i : ℕ) → done ≤ length out → i < length sub → get_or (put_mid done (length out - done) out sub) (done + i) 0 ≡ get_or sub i 0
put_in out sub done i room lt = grind (arith, places)

-- at the first part, and where nothing was moved
pub seen_same : (old mid new out sub : List ℕ) (at done : ℕ) → done ≤ length out → Evolves mid new → AreSeen old mid at done out
    → AreSeen old new at done (put_mid done (length out - done) out sub)
seen_same old mid new out sub at done room second before i lt =
    subst (λ (b : ℕ). SeenAt old new (at + i) b) (sym (put_before out sub done i room lt))
    (seen_wider old old mid new (at + i) (get_or out i 0) (evolves_here old) (before i lt) second)

-- one more part is seen
pub seen_more : (old mid new out sub : List ℕ) (at done n : ℕ) → done ≤ length out → n ≤ length sub → Evolves old mid → Evolves mid new
    → AreSeen old mid at done out → AreSeen mid new (at + done) n sub
    → AreSeen old new at (done + n) (put_mid done (length out - done) out sub)
seen_more old mid new out sub at done n room fits first second before now i lt =
    let whole = put_mid done (length out - done) out sub in
    elim (below_or i done) [
      | inl low ↦ subst (λ (b : ℕ). SeenAt old new (at + i) b) (sym (put_before out sub done i room (omega (arith, low))))
          (seen_wider old old mid new (at + i) (get_or out i 0) (evolves_here old) (before i (omega (arith, low))) second)
      | inr high ↦
          let k : ℕ = i - done in
          let back : done + k ≡ i = omega (arith, high) in
          let place : at + done + k ≡ at + i = omega (arith, high) in
          let below : k < n = omega (arith, high, lt) in
          let byte : get_or sub k 0 ≡ get_or whole i 0 = sym (put_in out sub done k room (omega (arith, below, fits))) ∙ ap (λ (j : ℕ). get_or whole j 0) back in
          subst (λ (b : ℕ). SeenAt old new (at + i) b) byte
          (subst (λ (p : ℕ). SeenAt old new p (get_or sub k 0)) place
          (seen_wider old mid new new (at + done + k) (get_or sub k 0) first (now k below) (evolves_here new)))
    ]

gate_byte : (moment out : List ℕ) (half : Half) (at : ℕ) → at ≡ gate_place half → length out ≡ 1 → out ≡ take (length out) (drop at moment) → get_or moment (gate_place half) 0 ≡ get_or out 0 0
gate_byte moment out half at place one are =
    sym (ap (λ (l : List ℕ). get_or l 0 0) are ∙ get_or-take (length out) (drop at moment) 0 0 (omega (arith, one)) ∙ get_or-drop at moment 0 0
    ∙ ap (λ (k : ℕ). get_or moment k 0) (let k : at + 0 ≡ gate_place half = omega (arith, place) in k))

pub gate_seen : (moment out : List ℕ) (half : Half) (at : ℕ) → at ≡ gate_place half → length out ≡ 1 → out ≡ take (length out) (drop at moment) → get_or out 0 0 ≡ 167 → has_open_gate moment half ≡ true
gate_seen moment out half at place one are is =
    eq-eqb (get_or moment (gate_place half) 0) 167 (gate_byte moment out half at place one are ∙ is)

pub shut_seen : (moment out : List ℕ) (half : Half) (at : ℕ) → at ≡ gate_place half → length out ≡ 1 → out ≡ take (length out) (drop at moment) → (get_or out 0 0 ≡ 167 → ⊥) → has_open_gate moment half ≡ false
shut_seen moment out half at place one are isnt =
    ne_eqb (get_or moment (gate_place half) 0) 167 (λ is. isnt (sym (gate_byte moment out half at place one are) ∙ is))

pub stamp_seen : (moment field : List ℕ) (half : Half) (place n : ℕ) → place ≡ body_place half → length field ≡ 8 → field ≡ take (length field) (drop (place + 8) moment) → n ≡ number_at w64 0 field → n ≡ stamp moment half
stamp_seen moment field half place n is long are number =
    let range : field ≡ slice_range moment (place + 8) (place + 8 + 8) = are ∙ ap (λ (k : ℕ). take k (drop (place + 8) moment)) long ∙ sym (range_is 8 (place + 8) (place + 8 + 8) moment (omega arith)) in
    number ∙ generation_read moment place field range ∙ ap (λ (k : ℕ). generation_of (take 8192 (drop k moment))) is

pub confirms_wider : (old mid new late : List ℕ) (half : Half) (g : ℕ) → Evolves old mid → Confirms mid new half g → Evolves new late → Confirms old late half g
confirms_wider old mid new late half g before seen after = record {
  gate_at = seen.gate_at;
  stamp_at = seen.stamp_at;
  since = evolves_then old mid seen.gate_at before seen.since;
  between = seen.between;
  until = evolves_then seen.stamp_at new late seen.until after;
  gate = seen.gate;
  stamp_is = seen.stamp_is;
}

pub shut_wider : (old mid new late : List ℕ) (half : Half) → Evolves old mid → SawShut mid new half → Evolves new late → SawShut old late half
shut_wider old mid new late half before seen after = record {
  moment = seen.moment;
  since = evolves_then old mid seen.moment before seen.since;
  until = evolves_then seen.moment new late seen.until after;
  shut = seen.shut;
}

pub stamp_wider : (old mid new late : List ℕ) (half : Half) (g : ℕ) → Evolves old mid → SawStamp mid new half g → Evolves new late → SawStamp old late half g
stamp_wider old mid new late half g before seen after = record {
  moment = seen.moment;
  since = evolves_then old mid seen.moment before seen.since;
  until = evolves_then seen.moment new late seen.until after;
  stamp_is = seen.stamp_is;
}

pub other_wider : (old mid new late : List ℕ) (half : Half) (g : ℕ) → Evolves old mid → SawOther mid new half g → Evolves new late → SawOther old late half g
other_wider old mid new late half g before (inl shut) after = inl (shut_wider old mid new late half before shut after)
other_wider old mid new late half g before (inr seen) after = inr (seen.0, seen.1, confirms_wider old mid new late half seen.0 before seen.2 after)

pub if_some : (P : ℕ → Type 0) (o : Option ℕ) (x : ℕ) → o ≡ Some x → IfSome o P → P x
if_some P o x is given = subst (λ (m : Option ℕ). IfSome m P) is given

pub if_none : (P : Type 0) (o : Option ℕ) → o ≡ None → IfNone o P → P
if_none P o is given = subst (λ (m : Option ℕ). IfNone m P) is given

-- a look at gate A, and then one at gate B
module _ (old mid new : List ℕ) (before : Evolves old mid) (after : Evolves mid new) (first second : Option ℕ) where
  pub second_alone : (g : ℕ) → first ≡ None → second ≡ Some g → IfNone first (SawShut old mid A) → IfSome second (Confirms mid new B) → IsChosen old new B g
  second_alone g none some shut open_there = record {
    confirms = confirms_wider old mid new new B g before (if_some (Confirms mid new B) second g some open_there) (evolves_here new);
    beside = inl (shut_wider old old mid new A (evolves_here old) (if_none (SawShut old mid A) first none shut) after);
  }

  pub first_alone : (g : ℕ) → first ≡ Some g → second ≡ None → IfSome first (Confirms old mid A) → IfNone second (SawShut mid new B) → IsChosen old new A g
  first_alone g some none open_there shut = record {
    confirms = confirms_wider old old mid new A g (evolves_here old) (if_some (Confirms old mid A) first g some open_there) after;
    beside = inl (shut_wider old mid new new B before (if_none (SawShut mid new B) second none shut) (evolves_here new));
  }

  pub second_newer : (a b : ℕ) → first ≡ Some a → second ≡ Some b → a < b → IfSome first (Confirms old mid A) → IfSome second (Confirms mid new B) → IsChosen old new B b
  second_newer a b some other_some lt one two = record {
    confirms = confirms_wider old mid new new B b before (if_some (Confirms mid new B) second b other_some two) (evolves_here new);
    beside = inr (record {
      seen = a;
      most = omega (arith, lt);
      confirms = confirms_wider old old mid new A a (evolves_here old) (if_some (Confirms old mid A) first a some one) after;
    });
  }

  pub first_newer : (a b : ℕ) → first ≡ Some a → second ≡ Some b → b ≤ a → IfSome first (Confirms old mid A) → IfSome second (Confirms mid new B) → IsChosen old new A a
  first_newer a b some other_some le one two = record {
    confirms = confirms_wider old old mid new A a (evolves_here old) (if_some (Confirms old mid A) first a some one) after;
    beside = inr (record {
      seen = b;
      most = le;
      confirms = confirms_wider old mid new new B b before (if_some (Confirms mid new B) second b other_some two) (evolves_here new);
    });
  }
