-- The header has each number that the segment keeps.
use Rattle.std.proofs.Common.{◌+◌, ◌*◌}
use Rattle.pk_segment.proofs.segment.Segment.of_header.Goals as goal

pub returns : goal.returns
returns c = λ docs is first last. record {
  segment = record { count_is = is.count_is; texts_is = is.texts_is; first_is = first; last_is = last };
  dictionary = λ i. record { at = 24 + 12 * is.count_is i + is.texts_is i + is.postings_is i; bytes = is.dictionary_is i; terms = is.terms_is i };
}
