-- What a command line came to whose words could not be read.
use Rattle.std.specs.Prelude.{◌≡◌, ◌≢◌, ◌⊎◌, ℕ, List, Option}
use Rattle.std.specs.declared.io.ErrorKind.{ErrorKind}
use Rattle.std.specs.declared.io.ErrorKind.TheVariants.{InvalidData}
use Rattle.pk_command.specs.Endings.{IsTold, failed, refused}
use Rattle.pk_command.specs.Reasons.{memory_words, not_text_words}

-- WORDS THAT COULD NOT BE READ, for an error of this kind: one of them is not text and the command
-- line is refused, or memory ended and the command failed. That is told, and nothing else is done.
abbrev pub UnreadOutcome : ErrorKind → Option (List ℕ) → Option (List ℕ) → ℕ → Type 0
UnreadOutcome kind e e' status =
    ((kind ≡ InvalidData) × (status ≡ refused) × IsTold e e' not_text_words)
    ⊎ ((kind ≢ InvalidData) × (status ≡ failed) × IsTold e e' memory_words)
