-- From the matches of a command line to what its words ask.
use Rattle.std.proofs.Common.{◌≡◌, ◌⊎◌, ◌∙◌, inl, inr, refl, ap, sym, subst, codes, slice_index, arith, true, ℕ, List, [], Option, None, Some, option_map}
use Rattle.clap.specs.Words.{App, HasMatchesOf, IsAmong, Row, Text, fault_of, first_of, is_simple, is_simple_and_free, kind_of, one_of, subcommand_of, subcommand_rows_of}
use Rattle.clap.specs.declared.error.Error.{Error}
use Rattle.clap.specs.declared.error.kind.ErrorKind.{ErrorKind}
use Rattle.clap.specs.declared.error.kind.ErrorKind.TheVariants.{OutOfMemory}
use Rattle.clap.specs.declared.parser.matches.ArgMatches.{ArgMatches}
use Rattle.clap.proofs.OnLiterals.{clap_on_literals}
use Rattle.pk_arguments.specs.CommandLine.{Asks, IsCount, IsHelp, WordsAsk, pk_find_app}
use Rattle.pk_arguments.specs.Sizes.{HasSize, IsOfSize}
use Rattle.pk_arguments.specs.Unasked.{IsOfError, IsUnasked}
use Rattle.pk_arguments.specs.declared.asked.Asked.{Asked}
use Rattle.pk_arguments.specs.declared.asked.Asked.TheVariants.{Check, Create, Grow, Read, Run}
use Rattle.pk_arguments.specs.declared.unasked.Unasked.{Unasked}
use Rattle.pk_arguments.specs.declared.unasked.Unasked.TheVariants.{Help, Memory, Refused}

-- where the name and the rows are known, so is the pair of them
pub named_rows : {B : Type 0} (met : Option B) (name_of : B → Text) (rows_of : B → List Row) (name : Text) (rows : List Row)
    → Some name ≡ option_map name_of met
    → Some rows ≡ option_map (λ (p : Text × List Row). p.1) (option_map {U = Text × List Row} (λ b. (name_of b, rows_of b)) met)
    → option_map {U = Text × List Row} (λ b. (name_of b, rows_of b)) met ≡ Some (name, rows)
named_rows None name_of rows_of name rows named listed = cc
named_rows (Some b) name_of rows_of name rows named listed = cc

-- without a path nothing is asked
pub no_path : (asked : Asked) (name : Text) (rows : List Row) → first_of (codes "PATH") rows ≡ None
    → Asks (Some (name, rows)) asked → ⊥
no_path (Create path units) name rows none asks = cc
no_path (Grow path units) name rows none asks = cc
no_path (Run path) name rows none asks = cc
no_path (Read path) name rows none asks = cc
no_path (Check path) name rows none asks = cc

-- the names of the commands that take a number of units
abbrev pub IsNoOther : Text → Type 0
IsNoOther name = (name ≡ codes "run" → ⊥) × (name ≡ codes "read" → ⊥) × (name ≡ codes "check" → ⊥)

pub create_is_no_other : IsNoOther (codes "create")
create_is_no_other = (λ same. cc, λ same. cc, λ same. cc)

pub grow_is_no_other : IsNoOther (codes "grow")
grow_is_no_other =
    let not_read : codes "grow" ≡ codes "read" → ⊥ = λ same.
    let letters : 103 ≡ 114 = ap (λ (name : Text). slice_index name 0) same in absurd (omega (arith, letters)) in
    (λ same. cc, not_read, λ same. cc)

-- without a number of units no creation is, and no growth
pub no_units : (asked : Asked) (name named : Text) (rows : List Row) → name ≡ named
    → IsNoOther named
    → ((text : Text) → (units : ℕ) → one_of (codes "units") rows ≡ Some text → IsCount text units → IsOfSize units → ⊥)
    → HasSize asked → Asks (Some (name, rows)) asked → ⊥
no_units (Create path units) name named rows is other none size asks = none asks.2.0 units asks.2.1 asks.2.2 size
no_units (Grow path units) name named rows is other none size asks = none asks.2.0 units asks.2.1 asks.2.2 size
no_units (Run path) name named rows is other none size asks = other.0 (sym is ∙ asks.0)
no_units (Read path) name named rows is other none size asks = other.1 (sym is ∙ asks.0)
no_units (Check path) name named rows is other none size asks = other.2 (sym is ∙ asks.0)

-- the program's command line is one of which `clap` tells the matches and the faults
has_matches : is_simple pk_find_app ≡ true
unfolding clap_on_literals
has_matches = refl

has_faults : is_simple_and_free pk_find_app ≡ true
unfolding clap_on_literals
has_faults = refl

-- words that were parsed ask what their matches do
pub words_ask : (app : App) (words : List Text) (m : ArgMatches) (asked : Asked) → app ≡ pk_find_app
    → HasMatchesOf app words m → (is_simple_and_free app ≡ true → fault_of app words ≡ [])
    → Asks (subcommand_rows_of m) asked → WordsAsk words asked
words_ask app words m asked same matches faults asks = (
  subst (λ a. fault_of a words ≡ []) same (faults (ap is_simple_and_free same ∙ has_faults)),
  subst (λ met. Asks met asked) ((matches (ap is_simple same ∙ has_matches)).1 ∙ ap (λ a. subcommand_of a words) same) asks,
)

-- an error of the parse that is no want of memory has a fault of the words
is_fault : (words : List Text) (kind : ErrorKind) → (kind ≡ OutOfMemory → ⊥)
    → (kind ≡ OutOfMemory) ⊎ IsAmong kind (fault_of pk_find_app words)
    → IsAmong kind (fault_of pk_find_app words)
is_fault words kind other (inl memory) = absurd (other memory)
is_fault words kind other (inr among) = among

-- help is no want of memory
no_memory : (kind : ErrorKind) → IsHelp kind → kind ≡ OutOfMemory → ⊥
no_memory kind (inl help) memory = cc
no_memory kind (inr version) memory = cc

means : (words : List Text) (error : Error) (text : Text) (unasked : Unasked)
    → (kind_of error ≡ OutOfMemory) ⊎ IsAmong (kind_of error) (fault_of pk_find_app words)
    → IsOfError error text unasked → IsUnasked words unasked
means words error text (Help told) kinds is =
    (kind_of error, is_fault words (kind_of error) (no_memory (kind_of error) is.1) kinds, is.1)
means words error text (Refused told) kinds is =
    (kind_of error, is_fault words (kind_of error) is.1 kinds, is.2)
means words error text Memory kinds is = tt

-- words that were not parsed ask for no command, by what the error of the parse means
pub words_unasked : (app : App) (words : List Text) (error : Error) (text : Text) (unasked : Unasked)
    → app ≡ pk_find_app
    → (is_simple_and_free app ≡ true → (kind_of error ≡ OutOfMemory) ⊎ IsAmong (kind_of error) (fault_of app words))
    → IsOfError error text unasked → IsUnasked words unasked
words_unasked app words error text unasked same kinds is = means words error text unasked
    (subst (λ a. (kind_of error ≡ OutOfMemory) ⊎ IsAmong (kind_of error) (fault_of a words)) same (kinds (ap is_simple_and_free same ∙ has_faults)))
    is
