-- Why words ask for no command.
use Rattle.std.specs.Prelude.{◌≡◌, ◌≢◌, List, string_bytes}
use Rattle.clap.specs.Words.{Text, kind_of}
use Rattle.clap.specs.declared.error.Error.{Error}
use Rattle.clap.specs.declared.error.kind.ErrorKind.TheVariants.{OutOfMemory}
use Rattle.pk_arguments.specs.CommandLine.{AreRefused, IsHelp, WordsAskHelp}
use Rattle.pk_arguments.specs.declared.unasked.Unasked.{Unasked}
use Rattle.pk_arguments.specs.declared.unasked.Unasked.TheVariants.{Help, Memory, Refused}

-- what an error of the parse means: its text is handed on, but for want of memory
abbrev pub IsOfError : Error → Text → Unasked → Type 0
IsOfError error text (Help told) = (string_bytes told ≡ text) × IsHelp (kind_of error)
IsOfError error text (Refused told) =
    (string_bytes told ≡ text) × (kind_of error ≢ OutOfMemory) × (IsHelp (kind_of error) → ⊥)
IsOfError error text Memory = kind_of error ≡ OutOfMemory

-- THE WORDS ASK FOR NO COMMAND: they ask for help, or are refused; want of memory says nothing of
-- them.
abbrev pub IsUnasked : List Text → Unasked → Type 0
IsUnasked words (Help text) = WordsAskHelp words
IsUnasked words (Refused text) = AreRefused words
IsUnasked words Memory = Unit {0}
