-- The inputs of a merge, each with what it spells.
use Rattle.std.proofs.Common.{◌≡◌, ℕ, ◌+◌, ◌<◌, ◌≤◌, ◌^◌, List, [], ◌∷◌, ◌++◌, length, drop, get_or, sym, ap, subst, ◌∙◌, append-nil, arith}
use Rattle.std.proofs.lemmas.List.{drop_more}
use Rattle.std.proofs.lemmas.List.Concat.{flat_map-cons}
use Rattle.std.proofs.lemmas.List.Elements.{All-head}
use Rattle.std.specs.List.Sorted.{IsStrictlyIncreasing}
use Rattle.pk_join.specs.declared.input.MergeInput.{MergeInput}
use Rattle.pk_join.specs.Inputs.{SpellsInput, SpellsInputs}
use Rattle.pk_join.specs.Walking.{none_stored, stored_at}
use Rattle.pk_join.proofs.InputLemmas.{input_at, inputs_long}
use Rattle.pk_model.specs.Collection.{Doc, numbers_of}
use Rattle.pk_segment.specs.Directory.{doc_in}
use Rattle.pk_segment.specs.Spelling.{AreDocuments}
use Rattle.pk_state.specs.Committed.{Stored, all_in, live_in, live_of}
use Rattle.pk_merge.specs.Gathering.{RiseFrom, left_by}
use Rattle.pk_merge.proofs.RiseLemmas.{rise_zero}

-- the documents of those that are left, one in front
all_on : (stored : List Stored) (i : ℕ) → i < length stored
    → all_in (drop i stored) ≡ (stored_at stored i).documents ++ all_in (drop (i + 1) stored)
all_on stored i lt = ap all_in (drop_more stored i none_stored lt)
    ∙ flat_map-cons (λ (s : Stored). s.documents) (stored_at stored i) (drop (i + 1) stored)

-- The ith input spells the ith of what is stored, and the documents from there on rise.
pub record IsNext (bytes : List ℕ) (x : MergeInput) (stored : List Stored) (i last : ℕ) : Type 0 where
  pub within : i < length stored
  pub input : SpellsInput bytes x (stored_at stored i)
  pub rise : RiseFrom last ((stored_at stored i).documents ++ all_in (drop (i + 1) stored))

-- so it is on a disk that was only read
pub next_of : (was bytes : List ℕ) (is : List MergeInput) (stored : List Stored) (i last : ℕ) (x : MergeInput)
    → SpellsInputs was is stored → bytes ≡ was → i < length is → x ≡ get_or is i x
    → RiseFrom last (all_in (drop i stored)) → IsNext bytes x stored i last
next_of was bytes is stored i last x spells same lt at rise =
    let within : i < length stored = omega (arith, lt, inputs_long was is stored spells) in
    record {
      within = within;
      input = input_at bytes is stored i x
          (subst (λ (b : List ℕ). SpellsInputs b is stored) (sym same) spells) lt at;
      rise = subst (RiseFrom last) (all_on stored i within) rise;
    }

-- WHAT THEY LEAVE
pub live_here : (dead : List ℕ) (s : Stored) → dead ≡ s.dead → left_by dead s.documents ≡ live_in (s ∷ [])
live_here dead s same = ap (λ (ns : List ℕ). left_by ns s.documents) same
    ∙ sym (flat_map-cons live_of s [] ∙ append-nil (live_of s))

-- THE FIRST NUMBER is at least 1
first_least : (docs more : List Doc) → AreDocuments docs → 1 ≤ (doc_in (docs ++ more) 0).number
first_least [] more are = absurd (omega (arith, are.some))
first_least (d ∷ docs) more are =
    (All-head (λ (x : Doc). (1 ≤ x.number) × (x.number < 2 ^ 32)) d docs are.each).0

least : (bytes : List ℕ) (is : List MergeInput) (stored : List Stored) → SpellsInputs bytes is stored
    → 0 < length (all_in stored) → 1 ≤ (doc_in (all_in stored) 0).number
least bytes is [] spells some = absurd (omega (arith, some))
least bytes [] (s ∷ stored) spells some = absurd spells
least bytes (x ∷ is) (s ∷ stored) spells some =
    subst (λ (ds : List Doc). 1 ≤ (doc_in ds 0).number)
    (sym (flat_map-cons (λ (y : Stored). y.documents) s stored))
    (first_least s.documents (all_in stored) spells.0.segment.are)

pub rise_all : (bytes : List ℕ) (is : List MergeInput) (stored : List Stored) → SpellsInputs bytes is stored
    → IsStrictlyIncreasing (numbers_of (all_in stored)) → RiseFrom 0 (all_in stored)
rise_all bytes is stored spells rising = rise_zero (all_in stored) rising (least bytes is stored spells)
