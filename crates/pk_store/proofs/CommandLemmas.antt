-- A call that writes nothing is a command for those who read the bytes beside it, and so is one that reads before it writes.
use Rattle.std.proofs.Common.{◌≡◌, Bool, true, false, List, ℕ, ap, arith, sym, subst}
use Rattle.pk_manifest.specs.Evolves.{Evolves, in_force}
use Rattle.pk_manifest.proofs.Evolving.{evolves_here}
use Rattle.pk_state.specs.Beside.{IsCommand}
use Rattle.pk_store.specs.Beside.{IsCommandBy}

-- a command is one whatever the flag
pub command_by : (flag : Bool) (old new : List ℕ) → IsCommand old new → IsCommandBy flag old new
command_by true old new is = λ whole. is
command_by false old new is = is

pub same_command : (flag : Bool) (old new : List ℕ) → new ≡ old → IsCommandBy flag old new
same_command flag old new same =
    let there : in_force new ≡ in_force old = ap in_force same in
    command_by flag old new (record {
      evolves = subst (λ (l : List ℕ). Evolves old l) (sym same) (evolves_here old);
      most = omega (arith, there);
    })

pub command_since : (flag : Bool) (old read new : List ℕ) → read ≡ old → IsCommandBy flag read new → IsCommandBy flag old new
command_since flag old read new same is = subst (λ (l : List ℕ). IsCommandBy flag l new) same is
