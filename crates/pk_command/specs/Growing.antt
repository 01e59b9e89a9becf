-- What is told of a growth, and why there was none.
use Rattle.std.specs.Prelude.{◌++◌, ℕ, List, codes, decimal}
use Rattle.pk_grow.specs.declared.fault.GrowFault.{GrowFault}
use Rattle.pk_grow.specs.declared.fault.GrowFault.TheVariants.{Shorter, Store}
use Rattle.pk_grow.specs.declared.fault.Growth.{Growth}
use Rattle.pk_grow.specs.declared.fault.Growth.TheVariants.{AsItWas, Grown}
use Rattle.pk_manifest.specs.declared.fault.ManifestFault.TheVariants.{NotAStore, Damaged, Disk, UsedUp, Memory}

-- what is told of a store that has so many units
abbrev pub growth_front : Growth → List ℕ
growth_front Grown = codes "grown to "
growth_front AsItWas = codes "has "

abbrev pub growth_line : Growth → ℕ → List ℕ
growth_line growth units = growth_front growth ++ decimal units ++ codes " units\n"

-- of one that was not grown
abbrev pub growing_words : GrowFault → List ℕ
growing_words Shorter = codes "pk_find: shorter\n"
growing_words (Store NotAStore) = codes "pk_find: not a store\n"
growing_words (Store Damaged) = codes "pk_find: damaged\n"
growing_words (Store UsedUp) = codes "pk_find: numbers used up\n"
growing_words (Store Disk) = codes "pk_find: disk\n"
growing_words (Store Memory) = codes "pk_find: memory\n"
