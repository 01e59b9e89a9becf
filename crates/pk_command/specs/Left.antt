-- What a command leaves in hand of the file that it opened or made.
use Rattle.std.specs.Prelude.{ℕ, Option, Some, None}
use Rattle.pk_command.specs.declared.left.Left.{Left}
use Rattle.pk_command.specs.declared.left.Left.TheVariants.{Nothing, File, Disk}

-- how many files are in hand
abbrev pub files_in_hand : {F D : Type 0} → Left F D → ℕ
files_in_hand Nothing = 0
files_in_hand (File file) = 1
files_in_hand (Disk disk) = 1

-- what is left of a file that became no disk, where there is one
abbrev pub left_of : {F D : Type 0} → Option F → Left F D
left_of None = Nothing
left_of (Some file) = File file
