-- So much of the row is begun after the parts so far; those from the place on are left.
use Rattle.std.proofs.Common.{◌-◌, ◌<◌, length}
use Rattle.std.specs.Str.{IsCharBoundary}
use Rattle.pk_words.specs.Rows.{texts}
use Rattle.pk_words.proofs.RowLemmas.{IsPartedAt}
use Rattle.pk_words.proofs.row.has_row_by.Given as goal

abbrev pub invariant-parts : goal.invariant-parts
invariant-parts l = record {
  boundary : IsCharBoundary l.text l.at;
  begun : l.begun < length l.sought.words.now;
  read : IsPartedAt (texts l.sought.words.now) l.text 0 l.at l.begun;
}

abbrev pub decreases-parts : goal.decreases-parts
decreases-parts l = length l.text - l.at
