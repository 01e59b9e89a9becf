-- Those of the numbers so far in whose texts the words stand are kept.
use Rattle.std.proofs.Common.{◌≡◌, map, take}
use Rattle.std.specs.List.{filter}
use Rattle.pk_model.specs.Views.{doc_of}
use Rattle.pk_words.specs.Rows.{texts}
use Rattle.pk_live.specs.InRow.{stands}
use Rattle.pk_live.proofs.in_row.keep_in_row.Given as goal

abbrev pub invariant-loop-i : goal.invariant-loop-i
invariant-loop-i l = l.kept.items ≡ filter (stands (texts l.row) l.live (map doc_of l.documents)) (take l.i l.numbers.items)
