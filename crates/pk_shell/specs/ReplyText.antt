-- How replies are spelled, without their line feed.
use Rattle.std.specs.Prelude.{ℕ, List, [], ◌∷◌, ◌++◌, length, codes, decimal, Result, Ok, Err, ◌==◌}
use Rattle.std.specs.Prelude.{if◌then◌else◌}
use Rattle.std.specs.List.{flat_map}
use Rattle.pk_model.specs.Steps.{Answer, added, deleted, found, text_is, committed, counted}
use Rattle.pk_model.specs.Steps.{merged, tidied}
use Rattle.pk_model.specs.declared.commands.Refusal.{Refusal}
use Rattle.pk_model.specs.declared.commands.Refusal.TheVariants.{Reopen, TextTooLong, BufferFull}
use Rattle.pk_model.specs.declared.commands.Refusal.TheVariants.{NumbersUsedUp, NoSuchDocument}
use Rattle.pk_model.specs.declared.commands.Refusal.TheVariants.{TooManySegments, SegmentTooLarge}
use Rattle.pk_model.specs.declared.commands.Refusal.TheVariants.{Memory, Full, Damaged, Disk}
use Rattle.pk_query.specs.declared.fault.QueryFault.{QueryFault}
use Rattle.pk_query.specs.declared.fault.QueryFault.TheVariants as query

-- why a command was refused
abbrev pub refusal_text : Refusal → List ℕ
refusal_text Reopen = codes "reopen"
refusal_text TextTooLong = codes "text too long"
refusal_text BufferFull = codes "buffer full"
refusal_text NumbersUsedUp = codes "numbers used up"
refusal_text NoSuchDocument = codes "no such document"
refusal_text TooManySegments = codes "too many segments"
refusal_text SegmentTooLarge = codes "segment too large"
refusal_text Memory = codes "memory"
refusal_text (Full need largest) =
    codes "full need " ++ (decimal need ++ (codes " largest " ++ decimal largest))
refusal_text Damaged = codes "damaged"
refusal_text Disk = codes "disk"

-- why a query text was refused, with its place in bytes
abbrev pub fault_text : QueryFault → List ℕ
fault_text query.TooLong = codes "query too long"
fault_text query.TooDeep = codes "query too deep"
fault_text (query.NoWord place) = codes "query no word at " ++ decimal place
fault_text (query.Unexpected place) = codes "query unexpected at " ++ decimal place
fault_text (query.Unclosed place) = codes "query unclosed at " ++ decimal place
fault_text query.Memory = codes "memory"

-- a byte of a text: a line feed is written `\n`, a backslash `\\`
abbrev pub escaped : ℕ → List ℕ
escaped b = if b == 10 then codes "\\n" else if b == 92 then codes "\\\\" else b ∷ []

-- a number of an answer
abbrev pub spaced : ℕ → List ℕ
spaced n = codes " " ++ decimal n

-- A REPLY
abbrev pub reply_text : Result Answer Refusal → List ℕ
reply_text (Ok (added n)) = codes "added " ++ decimal n
reply_text (Ok (deleted n)) = codes "deleted " ++ decimal n
reply_text (Ok (found ns)) =
    codes "found " ++ (decimal (length ns) ++ (codes ":" ++ flat_map spaced ns))
reply_text (Ok (text_is text)) = codes "text " ++ flat_map escaped text
reply_text (Ok committed) = codes "committed"
reply_text (Ok merged) = codes "merged"
reply_text (Ok tidied) = codes "tidied"
reply_text (Ok (counted documents next)) =
    codes "count " ++ (decimal documents ++ (codes " next " ++ decimal next))
reply_text (Err why) = codes "refused " ++ refusal_text why
