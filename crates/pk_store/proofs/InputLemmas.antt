-- The inputs of a merge, one for each open segment.
use Rattle.std.proofs.Common.{◌≡◌, ℕ, ◌+◌, ◌<◌, ◌≤◌, ◌++◌, List, [], ◌∷◌, get_or, length, take, ap, sym, ◌∙◌, subst, arith}
use Rattle.std.proofs.lemmas.List.{take_all, take_more}
use Rattle.pk_disk.specs.declared.units.Extent.{Extent}
use Rattle.pk_disk.specs.Units.{extent_bytes}
use Rattle.pk_join.specs.declared.input.MergeInput.{MergeInput}
use Rattle.pk_join.specs.Inputs.{SpellsInput, SpellsInputs}
use Rattle.pk_manifest.specs.declared.manifest.Part.{Part as Entry}
use Rattle.pk_open.specs.declared.opened.OpenSegment.{OpenSegment}
use Rattle.pk_open.specs.Opened.{AreOpenOf, entries_of, none_stored}
use Rattle.pk_open.proofs.PlaceLemmas.{entries_many, entry_there, opened_at, opened_long, spelled_at}
use Rattle.pk_segment.specs.Spelling.{IsKind, SegmentSpells}
use Rattle.pk_state.specs.Committed.{Stored}
use Rattle.pk_state.specs.Holds.{SpellsEntries}
use Rattle.pk_state.specs.Kept.{HaveKinds}
use Rattle.pk_store.specs.Inputs.{AreOf}

pub inputs_push : (bytes : List ℕ) (is : List MergeInput) (ss : List Stored) (i : MergeInput) (s : Stored) → SpellsInputs bytes is ss → SpellsInput bytes i s → SpellsInputs bytes (is ++ i ∷ []) (ss ++ s ∷ [])
inputs_push bytes [] [] i s so_far is = (is, tt)
inputs_push bytes [] (t ∷ ss) i s so_far is = absurd so_far
inputs_push bytes (j ∷ js) [] i s so_far is = absurd so_far
inputs_push bytes (j ∷ js) (t ∷ ss) i s so_far is = (so_far.0, inputs_push bytes js ss i s so_far.1 is)

-- the kind of the entry at a place
pub kind_at : (es : List Entry) (n : ℕ) (e : Entry) → HaveKinds es → n < length es → e ≡ get_or es n e → IsKind e.kind
kind_at es n e have lt at = subst (λ (x : Entry). IsKind x.kind) (sym at) (have n e lt)

-- an open segment, at its place
pub inputs_more : (bytes : List ℕ) (os : List OpenSegment) (stored : List Stored) (n : ℕ) (o : OpenSegment) (is now : List MergeInput) (i : MergeInput) → SpellsEntries bytes (entries_of os) stored → AreOpenOf os stored
    → n < length os → o ≡ get_or os n o → now ≡ is ++ i ∷ [] → i.extent ≡ o.entry.extent → i.kind ≡ o.entry.kind → i.dead.now ≡ o.dead
    → SpellsInputs bytes is (take n stored) → SpellsInputs bytes now (take (n + 1) stored)
inputs_more bytes os stored n o is now i spells are lt at pushed extent kind dead so_far =
    let s = get_or stored n none_stored in
    let entry = spelled_at bytes os stored n o spells lt at in
    let open_of = opened_at os stored n o are lt at in
    let less : n < length stored = omega (arith, lt, opened_long os stored are) in
    let here : SpellsInput bytes i s = record { segment = subst (SegmentSpells (extent_bytes bytes i.extent) s.documents) (sym kind) (subst (λ (x : Extent). SegmentSpells (extent_bytes bytes x) s.documents o.entry.kind) (sym extent) entry.segment); dead = dead ∙ open_of.dead } in
    subst (λ (js : List MergeInput). SpellsInputs bytes js (take (n + 1) stored)) (sym pushed)
    (subst (SpellsInputs bytes (is ++ i ∷ [])) (sym (take_more stored n none_stored less)) (inputs_push bytes is (take n stored) i s so_far here))

pub inputs_all : (bytes : List ℕ) (os : List OpenSegment) (stored : List Stored) (n : ℕ) (is : List MergeInput) → AreOpenOf os stored → length os ≤ n → SpellsInputs bytes is (take n stored) → SpellsInputs bytes is stored
inputs_all bytes os stored n is are ends so_far = subst (SpellsInputs bytes is) (take_all n stored (omega (arith, ends, opened_long os stored are))) so_far

-- ---- each input is of the entry at its place

of_push : (is : List MergeInput) (es : List Entry) (i : MergeInput) (e : Entry) → AreOf is es → i.extent ≡ e.extent → i.kind ≡ e.kind → AreOf (is ++ i ∷ []) (es ++ e ∷ [])
of_push [] [] i e so_far extent kind = (extent, kind, tt)
of_push [] (f ∷ es) i e so_far extent kind = absurd so_far
of_push (j ∷ is) [] i e so_far extent kind = absurd so_far
of_push (j ∷ is) (f ∷ es) i e so_far extent kind = (so_far.0, so_far.1, of_push is es i e so_far.2 extent kind)

pub of_more : (os : List OpenSegment) (n : ℕ) (o : OpenSegment) (is now : List MergeInput) (i : MergeInput) → n < length os → o ≡ get_or os n o → now ≡ is ++ i ∷ [] → i.extent ≡ o.entry.extent → i.kind ≡ o.entry.kind
    → AreOf is (take n (entries_of os)) → AreOf now (take (n + 1) (entries_of os))
of_more os n o is now i lt at pushed extent kind so_far =
    let es = entries_of os in
    let more : take (n + 1) es ≡ take n es ++ o.entry ∷ [] = take_more es n o.entry (omega (arith, lt, entries_many os)) ∙ ap (λ (e : Entry). take n es ++ e ∷ []) (sym (entry_there os n o lt at)) in
    subst (λ (js : List MergeInput). AreOf js (take (n + 1) es)) (sym pushed) (subst (AreOf (is ++ i ∷ [])) (sym more) (of_push is (take n es) i o.entry so_far extent kind))

pub of_all : (os : List OpenSegment) (n : ℕ) (is : List MergeInput) → length os ≤ n → AreOf is (take n (entries_of os)) → AreOf is (entries_of os)
of_all os n is ends so_far = subst (AreOf is) (take_all n (entries_of os) (omega (arith, ends, entries_many os))) so_far
