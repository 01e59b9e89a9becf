-- What is shown of a moment among commands is what one of them left.
use Rattle.std.proofs.Common.{◌≡◌, inl, inr, ℕ, ◌≤◌, ◌∷◌, [], true, List, sym, ◌∙◌, ap, subst, arith}
use Rattle.std.specs.Prelude.{Some}
use Rattle.pk_manifest.specs.declared.half.Half.{Half}
use Rattle.pk_manifest.specs.Bodies.{body_of, half_in_force, has_open_gate}
use Rattle.pk_manifest.specs.Current.{HasBody, units_of_disk}
use Rattle.pk_manifest.specs.Evolves.{AreTold, Evolves, WasOpen, in_force, stamp}
use Rattle.pk_manifest.specs.Found.{IsFound}
use Rattle.pk_manifest.specs.Said.{units_said_in}
use Rattle.pk_manifest.specs.Sound.{IsBody}
use Rattle.pk_manifest.specs.Spelling.{Body, spelling}
use Rattle.pk_manifest.proofs.Evolving.{at_least, evolves_here, evolves_then, kept_stamp, open_below}
use Rattle.pk_manifest.proofs.Found.{found_back, found_on, named_same}
use Rattle.pk_manifest.proofs.Moves.{by_half, forced_is}
use Rattle.pk_manifest.proofs.Said.{said_spelled}
use Rattle.pk_manifest.proofs.Sound.{says_sound}
use Rattle.pk_model.specs.Collection.{Collection}
use Rattle.pk_state.specs.Beside.{AreCommands, HoldsOneOf, IsMoment, IsShot, Left}
use Rattle.pk_state.specs.Holds.{Holds}
use Rattle.pk_state.proofs.HoldsLemmas.{holds_with}

-- a half that is open over the generation in force is in force
forced_half : (bytes : List ℕ) (half h0 : Half) → AreTold bytes → half_in_force bytes ≡ Some h0 → in_force bytes ≡ stamp bytes half → has_open_gate bytes half ≡ true → half ≡ h0
forced_half bytes half h0 told current is gate =
    let forced = forced_is bytes h0 current in
    elim (by_half h0 half) [
      | inl same ↦ same
      | inr beside ↦ absurd (told h0 forced.gate (subst (λ (h : Half). has_open_gate bytes h ≡ true) beside gate)
          (sym forced.is ∙ is ∙ ap (stamp bytes) beside))
    ]

-- a body of bytes that hold a collection has the units of the disk
units_there : (bytes : List ℕ) (half : Half) (b : Body) (c : Collection) (holds : Holds bytes c) → half ≡ holds.half → body_of bytes half ≡ spelling b → IsBody b.units b → b.units ≡ units_of_disk bytes
units_there bytes half b c holds same spelled sound =
    let a = holds.committed.body in
    let one : spelling b ≡ spelling a = sym spelled ∙ ap (body_of bytes) same ∙ holds.current.spelled in
    sym (said_spelled b sound.units) ∙ ap units_said_in one ∙ said_spelled a holds.current.sound.units ∙ (says_sound (units_of_disk bytes) a holds.current.sound.sound).of_disk

-- so it is in force
in_force_there : (bytes : List ℕ) (half : Half) (g : ℕ) (b : Body) (c : Collection) (holds : Holds bytes c) → half ≡ holds.half → IsFound bytes half g b → HasBody bytes half b
in_force_there bytes half g b c holds same found = record {
  in_force = holds.current.in_force ∙ ap Some (sym same);
  spelled = found.spelled;
  tabled = found.tabled;
  sound = subst (λ (n : ℕ). IsBody n b) (units_there bytes half b c holds same found.spelled found.sound) found.sound;
}

-- from the start of a command to a moment of a later one
until_moment : (first : Left) (rest : List Left) (m : List ℕ) → AreCommands first rest → IsMoment first rest m → Evolves first.bytes m
until_moment first [] m commands is = subst (λ (l : List ℕ). Evolves first.bytes l) (sym is) (evolves_here first.bytes)
until_moment first (next ∷ rest) m commands (inl amid) = amid.since
until_moment first (next ∷ rest) m commands (inr later) = evolves_then first.bytes next.bytes m commands.1.0.evolves (until_moment next rest m commands.1.1 later)

one_of : (first : Left) (rest : List Left) (image : List ℕ) → Holds image first.collection → HoldsOneOf first rest image
one_of first [] image holds = holds
one_of first (next ∷ rest) image holds = inl holds

module _ (m image : List ℕ) (half : Half) (g : ℕ) (b : Body) (shot : IsShot m image half g b) where
  stands : g ≤ in_force m
  stands = let low : stamp m half ≤ in_force m = open_below m half shot.found.gate in omega (arith, low, shot.found.stamp_is)

  -- the body was in force when the command began
  before : (w : List ℕ) (c : Collection) → Holds w c → AreTold w → Evolves w m → in_force w ≡ g → Holds image c
  before w c holds told evolves is =
      let was : WasOpen w m half = evolves.gates half shot.found.gate (omega (arith, shot.found.stamp_is, is)) in
      let over : in_force w ≡ stamp w half = is ∙ sym shot.found.stamp_is ∙ kept_stamp w m half was in
      let one : half ≡ holds.half = forced_half w half holds.half told holds.current.in_force over was.gate in
      let units : b.units ≡ units_of_disk w = units_there w half b c holds one (sym was.body ∙ shot.found.spelled) shot.found.sound in
      let there = found_back w m half was evolves.size g b (omega (arith, units)) shot.found in
      holds_with w image half half b c (in_force_there w half g b c holds one there) shot.has
      (λ k e lt. shot.same k e lt ∙ named_same w m half was evolves.size g b there k e lt) holds

  -- or it took force in it
  after : (w : List ℕ) (c : Collection) → Holds w c → AreTold m → Evolves m w → in_force w ≡ g → Holds image c
  after w c holds told evolves is =
      let forced = forced_is w holds.half holds.current.in_force in
      let was : WasOpen m w holds.half = evolves.gates holds.half forced.gate (omega (arith, forced.is, is, stands)) in
      let same : stamp w holds.half ≡ stamp m holds.half = kept_stamp m w holds.half was in
      let one : half ≡ holds.half = elim (by_half holds.half half) [
        | inl one ↦ one
        | inr beside ↦ absurd (told holds.half was.gate (subst (λ (h : Half). has_open_gate m h ≡ true) beside shot.found.gate)
            (sym same ∙ sym forced.is ∙ is ∙ sym shot.found.stamp_is ∙ ap (stamp m) beside))
      ] in
      let open_there : WasOpen m w half = subst (λ (h : Half). WasOpen m w h) (sym one) was in
      let there = found_on m w half open_there evolves.size g b (subst (λ (h : Half). has_open_gate w h ≡ true) (sym one) forced.gate) shot.found in
      holds_with w image half half b c (in_force_there w half g b c holds one there) shot.has
      (λ k e lt. shot.same k e lt ∙ sym (named_same m w half open_there evolves.size g b shot.found k e lt)) holds

  pub means : (first : Left) (rest : List Left) → AreTold first.bytes → AreCommands first rest → IsMoment first rest m → in_force first.bytes ≤ g → HoldsOneOf first rest image
  means first [] told holds is low =
      let evolves : Evolves first.bytes m = subst (λ (l : List ℕ). Evolves first.bytes l) (sym is) (evolves_here first.bytes) in
      let same : in_force m ≡ in_force first.bytes = ap in_force is in
      before first.bytes first.collection holds told evolves (omega (arith, low, stands, same))
  means first (next ∷ rest) told commands is low = elim (at_least g (in_force first.bytes)) [
    | inl enough ↦ inl (before first.bytes first.collection commands.0 told (until_moment first (next ∷ rest) m commands is) (omega (arith, enough, low)))
    | inr less ↦ elim is [
      | inl amid ↦ inr (one_of next rest image (after next.bytes next.collection (first_holds next rest commands.1.1) (amid.since.told told) amid.until
          (omega (arith, less, commands.1.0.most, stands, amid.until.rises))))
      | inr later ↦ inr (means next rest (commands.1.0.evolves.told told) commands.1.1 later (omega (arith, less, commands.1.0.most)))
    ]
  ]
    where
      first_holds : (first : Left) (rest : List Left) → AreCommands first rest → Holds first.bytes first.collection
      first_holds first [] holds = holds
      first_holds first (next ∷ rest) commands = commands.0
