-- What is found is shown, and it is no older than what was in force.
use Rattle.std.proofs.Common.{◌≡◌, ◌⊎◌, inl, inr, ℕ, ◌<◌, ◌≤◌, ◌==◌, ◌++◌, ◌||◌, ◌∷◌, Bool, true, false, List, refl, sym, ◌∙◌, ap, subst, arith}
use Rattle.std.proofs.lemmas.Bool.Decides.{nat_tests}
use Rattle.std.proofs.lemmas.List.Folds.{list_any-append}
use Rattle.pk_disk.specs.declared.units.Extent.{Extent}
use Rattle.pk_disk.specs.Disk.{in_range}
use Rattle.pk_manifest.specs.declared.half.Half.{Half}
use Rattle.pk_manifest.specs.declared.half.Half.TheVariants.{A, B}
use Rattle.pk_manifest.specs.Bodies.{body_place, gate_place, has_open_gate, other}
use Rattle.pk_manifest.specs.Sound.{named}
use Rattle.pk_manifest.specs.Spelling.{Body}
use Rattle.pk_manifest.proofs.Found.{found_body}
use Rattle.pk_manifest.specs.Evolves.{Evolves, WasOpen, body_in, covers, in_force, is_claimed, is_in, stamp, table_in}
use Rattle.std.specs.Prelude.{IfNone, Option, None}
use Rattle.pk_snapshot.specs.declared.fault.SnapshotFault.{SnapshotFault}
use Rattle.pk_snapshot.specs.declared.fault.SnapshotFault.TheVariants.{TooSmall, NotAStore, Changed, Damaged, Memory, Disk}
use Rattle.pk_manifest.specs.Found.{IsFound}
use Rattle.pk_snapshot.specs.Found.{HasNoBody, IsOfBody, IsOfConfirm, RefusedAs}
use Rattle.pk_snapshot.specs.Order.{CoverAlike}
use Rattle.pk_snapshot.specs.Shared.{IsChosen, SawNoGreater, SawShut}
use Rattle.pk_snapshot.specs.Shown.{IsBegun, IsShown, body_extent, gate_extent, own_extents}
use Rattle.pk_manifest.proofs.Evolving.{evolves_then, kept_stamp, was_open}
use Rattle.pk_snapshot.proofs.ConfirmLemmas.{confirmed_stamp}
use Rattle.pk_snapshot.proofs.SeenLemmas.{below_or, if_none}

any_of : (a b : Bool) → (a || b) ≡ true → (a ≡ true) ⊎ (b ≡ true)
any_of true b is = inl refl
any_of false b is = inr is

left_true : (a b : Bool) → a ≡ true → (a || b) ≡ true
left_true a b is = rw is refl

right_true : (a b : Bool) → b ≡ true → (a || b) ≡ true
right_true true b is = refl
right_true false b is = is

at_gate : (half : Half) (p : ℕ) → is_in p (gate_extent half) ≡ true → (p == gate_place half) ≡ true
at_gate A p is = grind (arith, nat_tests)
at_gate B p is = grind (arith, nat_tests)

at_body : (half : Half) (p : ℕ) → is_in p (body_extent half) ≡ true → in_range (body_place half) 8192 p ≡ true
at_body A p is = is
at_body B p is = is

none_false : (b : Bool) → (b || false) ≡ true → b ≡ true
none_false true is = refl
none_false false is = is

-- so what is looked at is of the half
pub found_shown : (bytes : List ℕ) (half : Half) (g : ℕ) (b : Body) (shown : List Extent) → IsFound bytes half g b → CoverAlike shown (named b ++ own_extents half) → IsShown bytes half shown
unfolding is_claimed
found_shown bytes half g b shown found is p covered =
    let both : (covers (named b) p || covers (own_extents half) p) ≡ true = sym (list_any-append (is_in p) (named b) (own_extents half)) ∙ sym (is p) ∙ covered in
    let body = in_range (body_place half) 8192 p in
    let rest = covers (table_in bytes half ∷ named (body_in bytes half)) p in
    let gate = p == gate_place half in
    elim (any_of (covers (named b) p) (covers (own_extents half) p) both) [
      | inl inside ↦
          let there : covers (named (body_in bytes half)) p ≡ true = ap (λ (x : Body). covers (named x) p) (found_body bytes half g b found) ∙ inside in
          right_true gate (body || rest) (right_true body rest (right_true (is_in p (table_in bytes half)) (covers (named (body_in bytes half)) p) there))
      | inr own ↦ elim (any_of (is_in p (gate_extent half)) (is_in p (body_extent half) || false) own) [
        | inl first ↦ left_true gate (body || rest) (at_gate half p first)
        | inr second ↦ right_true gate (body || rest) (left_true body rest (at_body half p (none_false (is_in p (body_extent half)) second)))
      ]
    ]

-- IT IS FRESH. With one gate open, the generation behind it is in force.
pub alone : (bytes : List ℕ) (half : Half) → has_open_gate bytes half ≡ true → has_open_gate bytes (other half) ≡ false → in_force bytes ≡ stamp bytes half
unfolding in_force
alone bytes A is isnt = rw (is, isnt) refl
alone bytes B is isnt = rw (is, isnt) refl

-- the half in force, if there is one
pub record Forced (bytes : List ℕ) : Type 0 where
  pub half : Half
  pub gate : has_open_gate bytes half ≡ true
  pub is : in_force bytes ≡ stamp bytes half

forced_by : (bytes : List ℕ) (a b : Bool) → has_open_gate bytes A ≡ a → has_open_gate bytes B ≡ b → (in_force bytes ≡ 0) ⊎ Forced bytes
unfolding in_force
forced_by bytes true true a b = elim (below_or (stamp bytes A) (stamp bytes B)) [
  | inl less ↦ inr (record { half = B; gate = b; is = grind (arith, nat_tests, less, a, b) })
  | inr more ↦ inr (record { half = A; gate = a; is = grind (arith, nat_tests, more, a, b) })
]
forced_by bytes true false a b = inr (record { half = A; gate = a; is = rw (a, b) refl })
forced_by bytes false true a b = inr (record { half = B; gate = b; is = rw (a, b) refl })
forced_by bytes false false a b = inl (rw (a, b) refl)

pub forced : (bytes : List ℕ) → (in_force bytes ≡ 0) ⊎ Forced bytes
forced bytes = forced_by bytes (has_open_gate bytes A) (has_open_gate bytes B) refl refl

same_or_other : (a b : Half) → (a ≡ b) ⊎ (a ≡ other b)
same_or_other A A = inl refl
same_or_other A B = inr refl
same_or_other B A = inr refl
same_or_other B B = inl refl

module _ (before looked start : List ℕ) (half : Half) (g : ℕ) (chosen : IsChosen before looked half g) (after : Evolves looked start) (whole : Evolves before start) (gate : has_open_gate start half ≡ true) (stamp_is : stamp start half ≡ g) where
  -- a half that was in force before and is older is not the chosen one
  not_same : (f : Forced before) → g < in_force before → f.half ≡ half → ⊥
  not_same f lt same =
      let is_forced : in_force before ≡ stamp before half = f.is ∙ ap (stamp before) same in
      let kept : WasOpen before start half = whole.gates half gate (omega (arith, lt, stamp_is)) in
      let again : stamp start half ≡ stamp before half = kept_stamp before start half kept in
      omega (arith, lt, is_forced, again, stamp_is)

  -- nor is it the other one
  not_shut : (f : Forced before) → g < in_force before → SawShut before looked (other half) → ⊥
  not_shut f lt shut =
      let late : Evolves shut.moment start = evolves_then shut.moment looked start shut.until after in
      let both = was_open before shut.moment start shut.since late half gate (omega (arith, lt, stamp_is)) in
      let only : in_force shut.moment ≡ stamp shut.moment half = alone shut.moment half both.1.gate shut.shut in
      let again : stamp start half ≡ stamp shut.moment half = kept_stamp shut.moment start half both.1 in
      omega (arith, lt, shut.since.rises, only, again, stamp_is)

  not_older : (f : Forced before) → g < in_force before → f.half ≡ other half → SawNoGreater before looked (other half) g → ⊥
  not_older f lt same older =
      let h = other half in
      let is_forced : in_force before ≡ stamp before h = f.is ∙ ap (stamp before) same in
      let low : older.seen ≤ in_force before = omega (arith, lt, older.most) in
      let there : stamp older.confirms.gate_at h ≡ older.seen = confirmed_stamp before looked h older.seen older.confirms low in
      let kept : WasOpen before older.confirms.gate_at h = older.confirms.since.gates h older.confirms.gate (omega (arith, there, low)) in
      let again : stamp older.confirms.gate_at h ≡ stamp before h = kept_stamp before older.confirms.gate_at h kept in
      omega (arith, lt, is_forced, again, there, older.most)

  pub fresh : in_force before ≤ g
  fresh = elim (below_or g (in_force before)) [
    | inr low ↦ low
    | inl lt ↦ elim (forced before) [
      | inl none ↦ omega (arith, none)
      | inr f ↦ elim (same_or_other f.half half) [
        | inl same ↦ absurd (not_same f lt same)
        | inr beside ↦ elim chosen.beside [
          | inl shut ↦ absurd (not_shut f lt shut)
          | inr older ↦ absurd (not_older f lt beside older)
        ]
      ]
    ]
  ]

-- both gates were seen shut
pub both_shut : (old mid new : List ℕ) → Evolves old mid → Evolves mid new → (first second : Option ℕ) → first ≡ None → second ≡ None → IfNone first (SawShut old mid A) → IfNone second (SawShut mid new B) → SawShut old new A × SawShut old new B
both_shut old mid new before after first second none none_too one two =
    let a = if_none (SawShut old mid A) first none one in
    let b = if_none (SawShut mid new B) second none_too two in (
      record { moment = a.moment; since = a.since; until = evolves_then a.moment mid new a.until after; shut = a.shut },
      record { moment = b.moment; since = evolves_then old mid b.moment before b.since; until = b.until; shut = b.shut },
    )

-- a confirmation says nothing of the bytes
pub confirm_refused : (old new marked : List ℕ) (why : SnapshotFault) → IsOfConfirm why → RefusedAs old new marked why
confirm_refused old new marked TooSmall is = absurd is
confirm_refused old new marked NotAStore is = absurd is
confirm_refused old new marked Changed is = tt
confirm_refused old new marked Damaged is = absurd is
confirm_refused old new marked Memory is = absurd is
confirm_refused old new marked Disk is = tt

pub body_refused : (old new start marked : List ℕ) (half : Half) (g : ℕ) (why : SnapshotFault) → start ≡ marked → (IsBegun start half g → in_force old ≤ g) → IsOfBody start half g why → RefusedAs old new marked why
body_refused old new start marked half g TooSmall same rises is = absurd is
body_refused old new start marked half g NotAStore same rises is = absurd is
body_refused old new start marked half g Changed same rises is = tt
body_refused old new start marked half g Damaged same rises is = subst (HasNoBody old) same (record { half = half; generation = g; fresh = rises is.0; begun = is.0; none = is.1 })
body_refused old new start marked half g Memory same rises is = tt
body_refused old new start marked half g Disk same rises is = tt
