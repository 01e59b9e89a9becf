-- The documents that the inputs leave are ones that a segment may hold.
use Rattle.std.proofs.Common.{ℕ, ◌<◌, ◌≤◌, ◌^◌, List, [], ◌∷◌, length, sym, subst}
use Rattle.std.specs.Prelude.{All, IsUtf8, not}
use Rattle.std.proofs.lemmas.List.Elements.{All-append, All-filter, All-nil}
use Rattle.pk_join.specs.declared.input.MergeInput.{MergeInput}
use Rattle.pk_join.specs.Inputs.{SpellsInputs}
use Rattle.pk_model.specs.Collection.{Doc}
use Rattle.pk_segment.specs.Spelling.{AreDocuments}
use Rattle.pk_state.specs.Committed.{Stored, all_in, lists, live_in, live_of}
use Rattle.pk_state.proofs.MemberLemmas.{Above}
use Rattle.pk_state.proofs.WholeLemmas.{increasing, live_cons, live_sub, sub_above}
use Rattle.pk_merge.specs.Gathering.{RiseFrom}
use Rattle.pk_merge.proofs.RiseLemmas.{rise_here, rise_next}

above_of : (a : ℕ) (docs : List Doc) → RiseFrom a docs → Above a docs
unfolding Above
above_of a [] rise = tt
above_of a (d ∷ docs) rise = (rise_here a d docs rise, above_of d.number docs (rise_next a d docs rise))

each_live : (bytes : List ℕ) (is : List MergeInput) (stored : List Stored) → SpellsInputs bytes is stored
    → All (λ (d : Doc). (1 ≤ d.number) × (d.number < 2 ^ 32)) (live_in stored)
each_live bytes [] [] spells = All-nil (λ (d : Doc). (1 ≤ d.number) × (d.number < 2 ^ 32))
each_live bytes [] (s ∷ stored) spells = absurd spells
each_live bytes (x ∷ is) [] spells = absurd spells
each_live bytes (x ∷ is) (s ∷ stored) spells =
    subst (All (λ (d : Doc). (1 ≤ d.number) × (d.number < 2 ^ 32))) (sym (live_cons s stored))
    (All-append (λ (d : Doc). (1 ≤ d.number) × (d.number < 2 ^ 32)) (live_of s) (live_in stored)
    (All-filter (λ (d : Doc). not (lists d.number s.dead)) (λ (d : Doc). (1 ≤ d.number) × (d.number < 2 ^ 32))
    s.documents spells.0.segment.are.each)
    (each_live bytes is stored spells.1))

utf8_live : (bytes : List ℕ) (is : List MergeInput) (stored : List Stored) → SpellsInputs bytes is stored
    → All (λ (d : Doc). IsUtf8 d.text) (live_in stored)
utf8_live bytes [] [] spells = All-nil (λ (d : Doc). IsUtf8 d.text)
utf8_live bytes [] (s ∷ stored) spells = absurd spells
utf8_live bytes (x ∷ is) [] spells = absurd spells
utf8_live bytes (x ∷ is) (s ∷ stored) spells =
    subst (All (λ (d : Doc). IsUtf8 d.text)) (sym (live_cons s stored))
    (All-append (λ (d : Doc). IsUtf8 d.text) (live_of s) (live_in stored)
    (All-filter (λ (d : Doc). not (lists d.number s.dead)) (λ (d : Doc). IsUtf8 d.text) s.documents
    spells.0.segment.are.utf8)
    (utf8_live bytes is stored spells.1))

pub live_are : (bytes : List ℕ) (is : List MergeInput) (stored : List Stored) → SpellsInputs bytes is stored
    → RiseFrom 0 (all_in stored) → 0 < length (live_in stored) → AreDocuments (live_in stored)
live_are bytes is stored spells rise some = record {
  some = some;
  rising =
      increasing 0 (live_in stored) (sub_above 0 (live_in stored) (all_in stored) (live_sub stored)
      (above_of 0 (all_in stored) rise));
  each = each_live bytes is stored spells;
  utf8 = utf8_live bytes is stored spells;
}
