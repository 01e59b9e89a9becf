-- A deletion list that is spelled, and the documents that it leaves.
use Rattle.std.proofs.Common.{◌≡◌, ℕ, suc, ◌-◌, List, [], ◌∷◌, length, refl, sym, ap, subst, ◌∙◌, arith, Err, Some, None, Result}
use Rattle.std.specs.List.Sorted.{IsStrictlyIncreasing}
use Rattle.pk_dead.proofs.PostingLemmas.{posting_rises}
use Rattle.pk_disk.specs.declared.units.Extent.{Extent}
use Rattle.pk_disk.specs.Units.{extent_bytes}
use Rattle.pk_model.specs.Collection.{Doc, numbers_of}
use Rattle.pk_posting.specs.Posting.{Spells}
use Rattle.pk_posting.specs.Spelling.{AreBytes}
use Rattle.pk_posting.proofs.ByteLemmas.{spelling_is}
use Rattle.pk_posting.proofs.OneListLemmas.{one_list}
use Rattle.pk_posting.proofs.SpellingLemmas.{spelling_spells}
use Rattle.pk_posting.specs.declared.fault.ReadFault.{ReadFault}
use Rattle.pk_posting.specs.declared.fault.ReadFault.TheVariants.{Damaged, Disk, Memory}
use Rattle.pk_state.specs.Committed.{Names, live_of}
use Rattle.pk_check.specs.Deleted.{DeletionFailsAs, IsListIn, LeavesMany, ListFailsAs, stored_of}
use Rattle.pk_check.proofs.NumberLemmas.{all_met, met, met_all, met_and_left, names_from, names_say}

-- a result has one fault
pub only_fault : {T E : Type 0} (r : Result T E) (x y : E) → r ≡ Err x → r ≡ Err y → x ≡ y
only_fault r x y first second = let both : Err x ≡ Err y = sym first ∙ second in cc

-- what spells a list is its spelling
pub list_in : (bytes dead : List ℕ) → AreBytes bytes → Spells bytes dead → IsListIn bytes dead
list_in bytes dead small spells = record { posting = spells.posting; same = spelling_is bytes dead small spells }

pub in_spells : (bytes dead : List ℕ) → IsListIn bytes dead → Spells bytes dead
in_spells bytes dead is = subst (λ (bs : List ℕ). Spells bs dead) (sym is.same) (spelling_spells dead is.posting)

one_in : (bytes a b : List ℕ) → IsListIn bytes a → IsListIn bytes b → a ≡ b
one_in bytes a b x y = one_list bytes a b (in_spells bytes a x) (in_spells bytes b y)

-- no list leaves all
all_left : (docs : List Doc) → length (live_of (stored_of docs [])) ≡ length docs
all_left [] = refl
all_left (d ∷ docs) = ap suc (all_left docs)

pub none_dropped : (bytes : List ℕ) (docs : List Doc) (n : ℕ) → n ≡ length docs → LeavesMany bytes None docs n
none_dropped bytes docs n is = record { dead = []; spelled = refl; left_is = is ∙ sym (all_left docs) }

module _ (bytes : List ℕ) (e : Extent) (docs : List Doc) (rising : IsStrictlyIncreasing (numbers_of docs)) where
  -- a list that is met as a whole
  pub some_dropped : (dead : List ℕ) (listed left : ℕ) → IsListIn (extent_bytes bytes e) dead → listed ≡ length (met dead (numbers_of docs)) → listed ≡ length dead → left ≡ length docs - listed → LeavesMany bytes (Some e) docs left
  some_dropped dead listed left is count same rest = record {
    dead = dead;
    spelled = record {
      posting = is.posting;
      same = is.same;
      names = names_from dead docs (met_all dead (numbers_of docs) (posting_rises dead is.posting) rising (sym count ∙ same));
    };
    left_is = omega (arith, rest, count, met_and_left dead docs);
  }

  -- one that is not has a number that is none of them
  pub none_named : (dead : List ℕ) (listed : ℕ) → IsListIn (extent_bytes bytes e) dead → listed ≡ length (met dead (numbers_of docs)) → (listed ≡ length dead → ⊥) → DeletionFailsAs bytes (Some e) docs Damaged
  none_named dead listed is count other read spells =
      let own : read ≡ dead = one_in (extent_bytes bytes e) read dead (record { posting = spells.posting; same = spells.same }) is in
      let names : Names dead docs = subst (λ (ns : List ℕ). Names ns docs) own spells.names in
      other (count ∙ ap length (all_met dead (numbers_of docs) (posting_rises dead is.posting) rising (names_say dead docs names)))

  pub list_fails : (why : ReadFault) → ListFailsAs (extent_bytes bytes e) why → DeletionFailsAs bytes (Some e) docs why
  list_fails Damaged h = λ dead spells. h dead (record { posting = spells.posting; same = spells.same })
  list_fails Disk h = tt
  list_fails Memory h = tt
