-- The limit of a deletion list: it is a posting list.
use Rattle.std.specs.Prelude.{ℕ}
use Rattle.pk_posting.specs.Limits.{longest_list}

-- the most numbers of a deletion list
abbrev pub most_deleted : ℕ
most_deleted = longest_list
