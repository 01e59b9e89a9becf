-- What a snapshot is of, and that nothing newer is in force where no greater generation is seen.
use Rattle.std.proofs.Common.{◌≡◌, inl, inr, ℕ, ◌*◌, ◌<◌, ◌≤◌, ◌++◌, Bool, true, false, nat_lt, List, Result, Ok, Err, refl, sym, ◌∙◌, ap, subst, arith}
use Rattle.std.proofs.lemmas.Bool.Decides.{nat_tests}
use Rattle.std.specs.Prelude.{IfOk, IsTrue, Some, if◌then◌else◌}
use Rattle.pk_disk.specs.declared.units.Extent.{Extent}
use Rattle.pk_manifest.specs.declared.half.Half.{Half}
use Rattle.pk_manifest.specs.declared.half.Half.TheVariants.{A, B}
use Rattle.pk_manifest.specs.Bodies.{generation_of, half_in_force, half_of, has_open_gate, other}
use Rattle.pk_manifest.specs.Evolves.{Evolves, covers, force_of, in_force, stamp}
use Rattle.pk_manifest.specs.Found.{IsFound}
use Rattle.pk_manifest.specs.Sound.{named}
use Rattle.pk_manifest.specs.Spelling.{Body}
use Rattle.pk_manifest.proofs.Evolving.{evolves_here, evolves_then, open_below}
use Rattle.pk_manifest.proofs.Fields.{generation_of_spelling}
use Rattle.pk_manifest.proofs.Found.{found_body}
use Rattle.pk_snapshot.specs.Latest.{IsSnapshot}
use Rattle.pk_snapshot.specs.Order.{CoverAlike}
use Rattle.pk_snapshot.specs.Seen.{SawStamp}
use Rattle.pk_snapshot.specs.Shared.{Confirms, SawShut}
use Rattle.pk_snapshot.specs.Shown.{ShowsBody, own_extents, shown_bytes}
use Rattle.pk_snapshot.proofs.ConfirmLemmas.{begun}
use Rattle.pk_snapshot.proofs.OpenLemmas.{alone}
use Rattle.pk_snapshot.proofs.SeenLemmas.{stamp_wider}
use Rattle.pk_snapshot.proofs.ShowsLemmas.{shows}

-- NOTHING NEWER IS IN FORCE where neither body says a greater generation than one that is: what a body
-- says that is no greater, it said before.
stamp_before : (old new : List ℕ) (half : Half) (g n : ℕ) → g ≤ in_force old → n ≤ g → SawStamp old new half n → stamp old half ≤ g
stamp_before old new half g n low most seen = elim (seen.since.stamps half) [
  | inl same ↦ omega (arith, same, seen.stamp_is, most)
  | inr next ↦ absurd (let above : in_force old < stamp seen.moment half = next.0 in omega (arith, above, low, seen.stamp_is, most))
]

force_most : (x y : Bool) (a b g : ℕ) → a ≤ g → b ≤ g → force_of x y a b ≤ g
force_most true true a b g first second = grind (arith, nat_tests, first, second)
force_most true false a b g first second = first
force_most false true a b g first second = second
force_most false false a b g first second = omega arith

force_below : (bytes : List ℕ) (half : Half) (g : ℕ) → stamp bytes half ≤ g → stamp bytes (other half) ≤ g → in_force bytes ≤ g
unfolding in_force
force_below bytes A g own beside = force_most (has_open_gate bytes A) (has_open_gate bytes B) (stamp bytes A) (stamp bytes B) g own beside
force_below bytes B g own beside = force_most (has_open_gate bytes A) (has_open_gate bytes B) (stamp bytes A) (stamp bytes B) g beside own

pub latest_by_stamps : (old mid new : List ℕ) (half : Half) (g beside own : ℕ) → g ≤ in_force old → Evolves old mid → beside ≤ g → SawStamp old mid (other half) beside → own ≤ g → SawStamp mid new half own → in_force old ≤ g
latest_by_stamps old mid new half g beside own low first most seen most_own seen_own =
    force_below old half g
    (stamp_before old new half g own low most_own
    (stamp_wider old mid new new half own first seen_own (evolves_here new)))
    (stamp_before old mid (other half) g beside low most seen)

-- Nor is there where the other gate was shut, and then the body seen behind its own.
pub latest_alone : {E : Type 0} (old mid looked new : List ℕ) (half : Half) (g : ℕ) → g ≤ in_force old → Evolves old mid → SawShut mid looked (other half)
    → (result : Result Bool E) → IfOk result (λ is. IsTrue is → Confirms looked new half g) → IfOk result (λ is. IsTrue is → in_force old ≤ g)
latest_alone old mid looked new half g low first shut (Ok b) given = λ yes.
    let is = begun shut.moment looked new half g (omega (arith, low, first.rises, shut.since.rises)) shut.until (given yes) in
    let only : in_force shut.moment ≡ stamp shut.moment half = alone shut.moment half is.gate shut.shut in
    omega (arith, first.rises, shut.since.rises, only, is.stamp_is)
latest_alone old mid looked new half g low first shut (Err e) given = tt

-- what was in force when the bytes were marked is no newer than what is there now
pub marked_low : (marked now : List ℕ) (half : Half) (g : ℕ) → has_open_gate marked half ≡ true → stamp marked half ≡ g → Evolves marked now → g ≤ in_force now
marked_low marked now half g gate stamp_is since =
    let low : stamp marked half ≤ in_force marked = open_below marked half gate in
    omega (arith, low, stamp_is, since.rises)

pub snapshot_of : (start : List ℕ) (half : Half) (g : ℕ) (b : Body) (len : ℕ) (shown : List Extent) → IsFound start half g b → len ≡ 512 * b.units → CoverAlike shown (named b ++ own_extents half)
    → IsSnapshot start half g len shown
snapshot_of start half g b len shown found long names =
    let same = sym (found_body start half g b found) in
    record {
      found = subst (IsFound start half g) same found;
      long = long ∙ ap (λ (x : Body). 512 * x.units) same;
      names = λ p. names p ∙ ap (λ (x : Body). covers (named x ++ own_extents half) p) same;
    }

-- WHAT A SNAPSHOT SHOWS: its body, with all that this names
pub shows_of : (start : List ℕ) (half : Half) (g len : ℕ) (shown : List Extent) → IsSnapshot start half g len shown → ShowsBody start (shown_bytes len shown start) half g
shows_of start half g len shown is = shows start half g _ len shown is.found is.long is.names

-- a look up to the mark, and what comes after it
pub evolves_thrice : (one two three four : List ℕ) → Evolves one two → Evolves two three → Evolves three four → Evolves one four
evolves_thrice one two three four a b c = evolves_then one two four a (evolves_then two three four b c)

pub evolves_marked : (one two three start marked now : List ℕ) → Evolves one two → Evolves two three → Evolves three start → marked ≡ start → Evolves marked now → Evolves one now
evolves_marked one two three start marked now a b c same d =
    evolves_then one start now (evolves_thrice one two three start a b c) (subst (λ (l : List ℕ). Evolves l now) same d)

-- what an honest file tells
pub if_honest : {E : Type 0} (H P : Type 0) (result : Result Bool E) → (H → IfOk result (λ is. IsTrue is → P)) → IfOk result (λ is. IsTrue is → H → P)
if_honest H P (Ok b) given = λ yes h. given h yes
if_honest H P (Err e) given = tt

-- THE GENERATION THAT IS SHOWN is in force there.
pick : Half → ℕ → ℕ → ℕ
pick A a b = a
pick B a b = b

less : (t : Bool) (a b : ℕ) (half : Half) → (if t then Some B else Some A) ≡ Some half → (if t then b else a) ≡ pick half a b
unfolding pick
less true a b A is = cc
less true a b B is = refl
less false a b A is = refl
less false a b B is = cc

force_by : (x y : Bool) (a b : ℕ) (half : Half) → half_of x y a b ≡ Some half → force_of x y a b ≡ pick half a b
unfolding pick
force_by true true a b half is = less (nat_lt a b) a b half is
force_by true false a b A is = refl
force_by true false a b B is = cc
force_by false true a b A is = cc
force_by false true a b B is = refl
force_by false false a b half is = cc

force_stamp : (bytes : List ℕ) (half : Half) → half_in_force bytes ≡ Some half → in_force bytes ≡ stamp bytes half
unfolding in_force pick
force_stamp bytes A is = force_by (has_open_gate bytes A) (has_open_gate bytes B) (stamp bytes A) (stamp bytes B) A is
force_stamp bytes B is = force_by (has_open_gate bytes A) (has_open_gate bytes B) (stamp bytes A) (stamp bytes B) B is

pub shown_force : (start : List ℕ) (half : Half) (g len : ℕ) (shown : List Extent) → IsSnapshot start half g len shown → in_force (shown_bytes len shown start) ≡ g
shown_force start half g len shown is =
    let s = shows_of start half g len shown is in
    force_stamp (shown_bytes len shown start) half s.has.in_force ∙ ap generation_of s.has.spelled ∙ generation_of_spelling s.body s.found.sound.generation ∙ s.generation_is

-- and no greater than what is in force on the file
pub shown_low : (start now : List ℕ) (half : Half) (g len : ℕ) (shown : List Extent) → IsSnapshot start half g len shown → Evolves start now → in_force (shown_bytes len shown start) ≤ in_force now
shown_low start now half g len shown is since =
    let low : g ≤ in_force now = marked_low start now half g is.found.gate is.found.stamp_is since in
    omega (arith, low, shown_force start half g len shown is)
