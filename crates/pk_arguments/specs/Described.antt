-- What help says of a command.
use Rattle.std.specs.Prelude.{◌≡◌, ℕ, List, Some, option_map}
use Rattle.clap.specs.declared.builder.command.Command.TheViews.{out-Command as fields_of}
use Rattle.clap.specs.declared.builder.command.Command.{Command}

-- the line about it, and the text behind its options
pub record IsDescribed (line text : List ℕ) (command : Command) : Type 0 where
  pub about : option_map (λ a. a.now) (fields_of command).about ≡ Some line
  pub after_help : option_map (λ h. h.now) (fields_of command).after_help ≡ Some text
