-- How many documents hold a word, as the dictionaries say.
use Rattle.std.specs.Prelude.{ℕ, zero, suc, ◌+◌, ◌^◌, ◌-◌, List, Option, Some, None, get_or, min}
use Rattle.pk_dict.specs.declared.entry.Entry.{Entry}
use Rattle.pk_lookup.specs.Rows.{row_of}

-- how many documents have what an entry is of; without an entry none
abbrev pub frequency_by : Option Entry → ℕ
frequency_by None = 0
frequency_by (Some entry) = entry.frequency

-- how many documents of a segment hold the word at a place, by its entries
abbrev pub frequency_in : ℕ → List (Option Entry) → ℕ
frequency_in place entries = frequency_by (get_or entries place None)

-- how many documents of the first so many segments hold it, by a table of rows of so many entries
abbrev pub sum_in : ℕ → ℕ → ℕ → List (Option Entry) → ℕ
sum_in words place zero table = 0
sum_in words place (suc n) table =
    sum_in words place n table + frequency_in place (row_of words n table)

-- the same, as far as a frequency goes
abbrev pub sum_of : ℕ → ℕ → List (Option Entry) → ℕ → ℕ
sum_of words segments table place = min (sum_in words place segments table) (2 ^ 32 - 1)
