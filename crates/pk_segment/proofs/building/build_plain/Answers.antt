-- The sizes, and that the bytes spell the documents.
use Rattle.std.proofs.Common.{arith, ◌∙◌, ap, List, ℕ, ◌++◌, inl, refl}
use Rattle.pk_segment.specs.Spelling.{segment_spelling, docs_of}
use Rattle.pk_segment.proofs.ReadLemmas.{size_all, are_documents}
use Rattle.pk_segment.proofs.building.build_plain.Goals as goal

pub overflow_sub-text_bytes : goal.overflow_sub-text_bytes
overflow_sub-text_bytes c = omega (arith, size_all c.args.documents.now, c.in_ok-size.ensures)

pub overflow_cast-text_bytes : goal.overflow_cast-text_bytes
overflow_cast-text_bytes c = omega (arith, size_all c.args.documents.now, c.in_ok-size.ensures)

pub overflow_mul-text_bytes : goal.overflow_mul-text_bytes
overflow_mul-text_bytes c = omega (arith, size_all c.args.documents.now, c.in_ok-size.ensures)

pub overflow_sub-text_bytes-2 : goal.overflow_sub-text_bytes-2
overflow_sub-text_bytes-2 c = omega (arith, size_all c.args.documents.now, c.in_ok-size.ensures)

pub put_plain-requires-clause-text_bytes : goal.put_plain-requires-clause-text_bytes
put_plain-requires-clause-text_bytes c = omega (arith, size_all c.args.documents.now, c.in_ok-size.ensures)

pub put_plain-requires-clause-count : goal.put_plain-requires-clause-count
put_plain-requires-clause-count c = omega (arith, size_all c.args.documents.now, c.in_ok-size.ensures)

pub returns : goal.returns
returns c = record {
  is_kind = inl refl;
  are = are_documents c.args.documents.now c.requires.some c.requires.rising c.requires.least c.in_ok-put_plain.ensures.numbers;
  fits = omega (arith, c.in_ok-size.ensures);
  same = c.in_ok-put_plain.ensures.spelled ∙ ap (λ (xs : List ℕ). xs ++ segment_spelling (docs_of c.args.documents.now) 1) c.in_ok-out.ensures.items;
}
