-- The kind of the segments that are written: proofs know of it that it is a kind, and no more.
use Rattle.std.proofs.Common.{◌≡◌, ℕ, ◌+◌, ◌==◌, ◌≤◌, Bool, true, false, cond, [], length, inl, inr, refl, ◌∙◌, arith}
use Rattle.pk_dict.specs.Dictionary.{groups, spelling}
use Rattle.pk_model.specs.Terms.{terms_of}
use Rattle.pk_segment.specs.Indexed.{dictionary, postings}
use Rattle.pk_segment.specs.Spelling.{IsKind, segment_length}
use Rattle.pk_segment.proofs.SegmentLemmas.{parts_of}
use Rattle.pk_state.specs.Writing.{written_kind}

pub written_is_kind : IsKind written_kind
unfolding written_kind
written_is_kind = inr refl

pub kind_within : (kind : ℕ) → IsKind kind → (1 ≤ kind) × (kind ≤ 2)
kind_within kind (inl e) = (omega (arith, e), omega (arith, e))
kind_within kind (inr e) = (omega (arith, e), omega (arith, e))

-- no document has no word
no_lists : postings [] ≡ []
unfolding postings terms_of
no_lists = refl

no_words : dictionary [] ≡ []
unfolding dictionary spelling groups terms_of
no_words = refl

-- without documents there is the header alone
pub header_alone : (kind : ℕ) → segment_length [] kind ≡ 24
header_alone kind = parts_of [] kind ∙ alone (kind == 2)
  where
    alone : (b : Bool) → 24 + length (cond b (postings []) []) + length (cond b (dictionary []) []) ≡ 24
    alone true = rw (no_lists, no_words) refl
    alone false = refl
