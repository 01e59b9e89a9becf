-- The words so far pass, and the source was only read.
use Rattle.std.proofs.Common.{◌≡◌, ◌*◌, None, vec_len}
use Rattle.pk_posting.proofs.SourceLemmas.{IsAnswered}
use Rattle.pk_dict.specs.Cursor.{words_left}
use Rattle.pk_dict.specs.Dictionary.{group_count}
use Rattle.pk_dict.specs.Place.{bytes_at}
use Rattle.pk_dict.specs.Said.{IsSaid}
use Rattle.pk_filter.specs.Filter.{bytes_for}
use Rattle.pk_filter.proofs.WordLemmas.{HasFirst}
use Rattle.pk_filter.proofs.filter.WordFilter.of_dictionary.Given as goal

abbrev pub invariant-words : goal.invariant-words
invariant-words g l =
    let content = g.S.ByteSource.content in
    record {
      left : IsAnswered g.S.ByteSource l.fn.source l.source;
      place : l.words.place ≡ l.fn.place;
      sound : l.words.fault ≡ None;
      long : 4 * vec_len l.filter.lanes ≡ bytes_for l.fn.place.terms;
      said : g.S.ByteSource.honest → IsSaid (bytes_at (content l.fn.source) l.fn.place) l.words;
      read : g.S.ByteSource.honest → HasFirst (bytes_at (content l.fn.source) l.fn.place) (group_count l.fn.place.terms) l.words.read l.filter;
    }

abbrev pub decreases-words : goal.decreases-words
decreases-words g l = words_left l.words
