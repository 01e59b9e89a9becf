-- What a command came to, by its status, over any disk.
use Rattle.std.specs.Prelude.{◌≡◌, ◌≤◌, ◌*◌, ◌⊎◌, ℕ, List, [], ◌++◌, length, codes, decimal}
use Rattle.std.specs.Prelude.{IsTrue, Option, Result, Ok, Err, replicate, string_bytes}
use Rattle.std.specs.Io.KnownBytes.{Appends}
use Rattle.pk_arguments.specs.Unasked.{IsUnasked}
use Rattle.pk_arguments.specs.declared.unasked.Unasked.{Unasked}
use Rattle.pk_arguments.specs.declared.unasked.Unasked.TheVariants as unasked
use Rattle.pk_disk.specs.Disk.{Rose, nowhere}
use Rattle.pk_disk.specs.Frames.{KeepsDisk}
use Rattle.pk_disk.specs.Sizes.{least_units, most_units}
use Rattle.pk_disk.specs.declared.disk.Disk.{Ghosts}
use Rattle.pk_filedisk.specs.File.{IsDiskLength, IsOfMake, IsOfOpening}
use Rattle.pk_filedisk.specs.Found.{IsFound, IsLeftByMaking, IsLeftByOpening, IsNewAt}
use Rattle.pk_filedisk.specs.declared.fault.FileFault.{FileFault}
use Rattle.pk_filedisk.specs.declared.raw.RawFile as raw
use Rattle.pk_command.specs.Growing.{growing_words, growth_line}
use Rattle.pk_command.specs.Left.{left_of}
use Rattle.pk_command.specs.Reasons.{checking_words, creating_words, file_words, memory_words}
use Rattle.pk_command.specs.Reasons.{disk_words, opening_words, output_words, session_words}
use Rattle.pk_command.specs.declared.left.Left.{Left}
use Rattle.pk_command.specs.declared.left.Left.TheVariants as in_hand
use Rattle.pk_check.specs.Holding.{HoldsNone}
use Rattle.pk_check.specs.declared.body.Checked.{Checked}
use Rattle.pk_grow.specs.GrownFile.{GrowsFile}
use Rattle.pk_grow.specs.Growth.{session_units, store_bytes}
use Rattle.pk_grow.specs.declared.fault.GrowFault.{GrowFault}
use Rattle.pk_grow.specs.declared.fault.Growth.{Growth}
use Rattle.pk_model.specs.Collection.{Collection}
use Rattle.pk_model.specs.declared.commands.Refusal.{Refusal}
use Rattle.pk_shell.specs.Called.{EndsByCalls}
use Rattle.pk_shell.specs.Script.{Ends}
use Rattle.pk_shell.specs.Sending.{SentPart}
use Rattle.pk_shell.specs.StoreStep.{StoreStep}
use Rattle.pk_shell.specs.declared.ending.Ended.{Ended}
use Rattle.pk_shell.specs.declared.ending.ShellFault.{ShellFault}
use Rattle.pk_state.specs.Holds.{Holds}
use Rattle.pk_store.specs.Calls.{Call}
use Rattle.pk_store.specs.Checking.{Checks, ChecksBytes}
use Rattle.pk_store.specs.Eras.{Era, Extends, Work}
use Rattle.pk_store.specs.Eras as era
use Rattle.pk_store.specs.Opening.{Creates, Opens}
use Rattle.pk_store.specs.View.{StoreView}
use Rattle.pk_store.specs.declared.refused.CreateFault.{CreateFault}
use Rattle.pk_store.specs.declared.refused.OpenFault.{OpenFault}
use Rattle.pk_store.specs.declared.refused.OpenFault.TheVariants as opening
use Rattle.pk_store.specs.declared.refused.Refused.{Refused}

-- the statuses: all was done; a command failed; the command line was refused
abbrev pub done : ℕ
done = 0

abbrev pub failed : ℕ
failed = 1

abbrev pub refused : ℕ
refused = 2

-- the era of a store that was opened on the disk, or made on it, and closed after these calls
abbrev pub era_of : {D : Type 0} → (D → Work D → Era D) → D → StoreView D → List (Call D) → Era D
era_of begun disk store calls =
    begun disk (record { store = store; calls = calls; answered = length calls })

-- A SESSION: the disk opened as a store, and what was written is, as far as the session came, a
-- legal script's replies to what was read. Each line that asks the store is the next call of it; the
-- last of them left the disk as it is now, and on an honest disk each history goes on by them.
pub record IsSession {D : Type 0} (d : Ghosts D) (disk disk' : D) (r r' w w' : Option (List ℕ))
    (how : Result Ended ShellFault) : Type 0 where
  pub opened : StoreView D
  pub left : StoreView D
  pub opens : Opens d disk (Ok opened)
  pub ends : Ends (StoreStep d) opened r r' w w' how left
  pub calls : EndsByCalls d opened r r' w w' how left
  pub handed : disk' ≡ left.volume.disk
  pub extends : d.honest → Extends d (era_of era.opened disk opened calls.calls) disk'

-- NO SESSION: the disk opened as no store, and is as the opening left it. Nothing was read or
-- written.
pub record IsNoSession {D : Type 0} (d : Ghosts D) (disk disk' : D) (r r' w w' : Option (List ℕ))
    : Type 0 where
  pub refused : Refused D OpenFault
  pub opens : Opens d disk (Err refused)
  pub reader : r' ≡ r
  pub writer : w' ≡ w
  pub handed : disk' ≡ refused.disk
  pub extends : d.honest → Extends d (era.unopened disk (Err refused)) disk'

-- A text was told on standard error: the whole of it, or a part where a write failed.
abbrev pub IsTold : Option (List ℕ) → Option (List ℕ) → List ℕ → Type 0
IsTold e e' line = Appends e e' line ⊎ SentPart e e' line

-- WHAT A SESSION CAME TO, and to which disk: a failure is told in the words of its fault, and nothing
-- else is.
abbrev pub SessionOutcome : {D : Type 0} → Ghosts D → D → D → Option (List ℕ) → Option (List ℕ)
    → Option (List ℕ) → Option (List ℕ) → Option (List ℕ) → Option (List ℕ) → ℕ → Type 0
SessionOutcome d disk disk' r r' w w' e e' status =
    ((how : Ended) × (status ≡ done) × (e' ≡ e) × IsSession d disk disk' r r' w w' (Ok how))
    ⊎ (((fault : ShellFault) × (status ≡ failed) × IsTold e e' (session_words fault)
    × IsSession d disk disk' r r' w w' (Err fault))
    ⊎ ((none : IsNoSession d disk disk' r r' w w') × (status ≡ failed)
    × IsTold e e' (opening_words none.refused.why)))

-- a store was made, on the disk as it is now, and each history goes on from there
pub record IsMade {D : Type 0} (d : Ghosts D) (disk disk' : D) : Type 0 where
  pub made : StoreView D
  pub creates : Creates d disk (Ok made)
  pub handed : disk' ≡ made.volume.disk
  pub extends : d.honest → Extends d (era_of era.created disk made []) disk'

-- none was, and the disk is as it was handed back
pub record IsNotMade {D : Type 0} (d : Ghosts D) (disk disk' : D) : Type 0 where
  pub refused : Refused D CreateFault
  pub creates : Creates d disk (Err refused)
  pub handed : disk' ≡ refused.disk
  pub extends : d.honest → Extends d (era.uncreated disk (Err refused)) disk'

-- what is told of a store that was made
abbrev pub created_line : ℕ → List ℕ
created_line units = codes "created " ++ decimal units ++ codes " units\n"

-- WHAT A CREATION CAME TO, and to which disk: of a store that was made the size is told, or a part
-- of that line where the output failed, and nothing else.
abbrev pub CreationOutcome : {D : Type 0} → Ghosts D → D → D → ℕ → Option (List ℕ) → Option (List ℕ)
    → Option (List ℕ) → Option (List ℕ) → ℕ → Type 0
CreationOutcome d disk disk' units w w' e e' status =
    ((status ≡ done) × IsMade d disk disk' × Appends w w' (created_line units) × (e' ≡ e))
    ⊎ (((status ≡ failed) × IsMade d disk disk' × IsTold e e' output_words
    × SentPart w w' (created_line units))
    ⊎ ((none : IsNotMade d disk disk') × (status ≡ failed)
    × IsTold e e' (creating_words none.refused.why) × (w' ≡ w)))

-- a growth in a file of these bytes answered so, and left the file so
abbrev pub IsGrowth : {F : Type 0} → raw.Ghosts F → List ℕ → F → F → ℕ → Result Growth GrowFault
    → Type 0
IsGrowth f bytes file file' units answer = f.honest → GrowsFile f bytes file file' units answer

-- WHAT A GROWTH CAME TO, and to which file: how many units the store has is told, or a part of that
-- line where the output failed, and nothing else; else why it has them not.
abbrev pub GrowthOutcome : {F : Type 0} → raw.Ghosts F → List ℕ → F → F → ℕ → Option (List ℕ)
    → Option (List ℕ) → Option (List ℕ) → Option (List ℕ) → ℕ → Type 0
GrowthOutcome f bytes file file' units w w' e e' status =
    ((growth : Growth) × (status ≡ done) × IsGrowth f bytes file file' units (Ok growth)
    × Appends w w' (growth_line growth units) × (e' ≡ e))
    ⊎ (((growth : Growth) × (status ≡ failed) × IsGrowth f bytes file file' units (Ok growth)
    × IsTold e e' output_words × SentPart w w' (growth_line growth units))
    ⊎ ((fault : GrowFault) × (status ≡ failed) × IsGrowth f bytes file file' units (Err fault)
    × IsTold e e' (growing_words fault) × (w' ≡ w)))

-- A STORE THAT WAS CHECKED: the disk opened as one, and on an honest disk what was answered is what
-- the bytes are. Each history goes on, to the disk as it is now, as if the store had been opened and
-- closed.
pub record IsCheckOf {D : Type 0} (d : Ghosts D) (disk disk' : D) (result : Result Checked Refusal)
    : Type 0 where
  pub opened : StoreView D
  pub left : StoreView D
  pub opens : Opens d disk (Ok opened)
  pub checks : Checks d opened result left
  pub answered : d.honest → ChecksBytes (d.content disk) result
  pub handed : disk' ≡ left.volume.disk
  pub extends : d.honest → Extends d (era_of era.opened disk opened []) disk'

-- what a disk that did not open holds, by the reason
abbrev pub HoldsNoneBy : List ℕ → OpenFault → Type 0
HoldsNoneBy bytes opening.NotAStore = HoldsNone bytes
HoldsNoneBy bytes opening.Damaged = HoldsNone bytes
HoldsNoneBy bytes why = Unit {0}

-- NO STORE TO CHECK: the disk opened as none; where it is said to be none, or damaged, an honest one
-- holds no collection. The disk is as the opening left it.
pub record IsUnchecked {D : Type 0} (d : Ghosts D) (disk disk' : D) : Type 0 where
  pub refused : Refused D OpenFault
  pub opens : Opens d disk (Err refused)
  pub answered : d.honest → HoldsNoneBy (d.content disk) refused.why
  pub handed : disk' ≡ refused.disk
  pub extends : d.honest → Extends d (era.unopened disk (Err refused)) disk'

-- what is told of a store that was checked
abbrev pub checked_line : Checked → List ℕ
checked_line c = codes "ok " ++ decimal c.documents ++ (codes " documents next " ++ decimal c.next
    ++ (codes " segments " ++ decimal c.segments ++ codes "\n"))

-- WHAT A CHECK CAME TO, and to which disk: what the store has is told, or a part of that line where
-- the output failed, and nothing else; else why not.
abbrev pub CheckOutcome : {D : Type 0} → Ghosts D → D → D → Option (List ℕ) → Option (List ℕ)
    → Option (List ℕ) → Option (List ℕ) → ℕ → Type 0
CheckOutcome d disk disk' w w' e e' status =
    ((c : Checked) × (status ≡ done) × (e' ≡ e) × IsCheckOf d disk disk' (Ok c)
    × Appends w w' (checked_line c))
    ⊎ (((c : Checked) × (status ≡ failed) × IsTold e e' output_words
    × IsCheckOf d disk disk' (Ok c) × SentPart w w' (checked_line c))
    ⊎ (((why : Refusal) × (status ≡ failed) × IsTold e e' (checking_words why)
    × IsCheckOf d disk disk' (Err why) × (w' ≡ w))
    ⊎ ((none : IsUnchecked d disk disk') × (status ≡ failed)
    × IsTold e e' (opening_words none.refused.why) × (w' ≡ w))))

-- no call of the disk has failed
pub record IsFresh {D : Type 0} (d : Ghosts D) (disk : D) : Type 0 where
  pub reads : d.failed_reads disk ≡ 0
  pub writes : d.failed_writes disk ≡ 0

-- NO DISK IN A FILE that was to be opened: the fault is told, and what is left in hand is the file,
-- as it was found, or none was opened.
pub record IsUnopened {F : Type 0} (f : raw.Ghosts F) (may_hold : List ℕ → Type 0) (path : List ℕ)
    (e e' : Option (List ℕ)) (status : ℕ) (left : Option F) : Type 0 where
  pub fault : FileFault
  pub opening : IsOfOpening fault
  pub found : f.honest
      → IsLeftByOpening f.content (IsFound f.content f.path may_hold path) fault left
  pub ended : status ≡ failed
  pub told : IsTold e e' (file_words fault)

-- THE DISK IN A FILE that was opened at a path, as it was found: its bytes are some that the file
-- there may have, no call has failed, and nothing is open.
pub record IsFoundDisk {C F : Type 0} (c : Ghosts C) (f : raw.Ghosts F) (file_of : C → F)
    (may_hold : List ℕ → Type 0) (path : List ℕ) (disk : C) : Type 0 where
  pub fresh : IsFresh c disk
  pub long : IsDiskLength (length (c.content disk))
  pub found : f.honest → IsFound c.content (λ p. f.path (file_of p)) may_hold path disk
  pub closed : f.honest → c.is_open disk ≡ nowhere

-- THE STORE IN SUCH A DISK, shown as a disk over it: its units are what the body in force says, it
-- holds what first units of the disk below hold, and that one was only read.
pub record IsShown {C D : Type 0} (c : Ghosts C) (d : Ghosts D) (honest : Type 0) (below : D → C)
    (file : C) (disk : D) : Type 0 where
  pub fresh : IsFresh d disk
  pub long : IsDiskLength (length (d.content disk))
  pub shown : honest
      → d.content disk ≡ store_bytes (session_units (c.content file)) (c.content file)
  pub holds : honest → (units : ℕ) (all : Collection) → least_units ≤ units → units ≤ most_units
      → 512 * units ≤ length (c.content file) → Holds (store_bytes units (c.content file)) all
      → Holds (d.content disk) all
  pub closed : honest → d.is_open disk ≡ nowhere
  pub read : KeepsDisk c file (below disk)

-- THE STORE IN A FILE: that disk was found in the file, and the store is shown by this one.
pub record IsStoreAt {C D F : Type 0} (c : Ghosts C) (d : Ghosts D) (f : raw.Ghosts F)
    (below : D → C) (file_of : C → F) (may_hold : List ℕ → Type 0) (path : List ℕ) (disk : D)
    : Type 0 where
  pub file : C
  pub found : IsFoundDisk c f file_of may_hold path file
  pub shown : IsShown c d f.honest below file disk

-- NO STORE SHOWN of the disk in a file: a read of it failed, and that is told. The disk is handed
-- back, and was only read.
pub record IsUnshown {C F : Type 0} (c : Ghosts C) (f : raw.Ghosts F) (file_of : C → F)
    (may_hold : List ℕ → Type 0) (path : List ℕ) (e e' : Option (List ℕ)) (status : ℕ) (left : C)
    : Type 0 where
  pub file : C
  pub found : IsFoundDisk c f file_of may_hold path file
  pub read : KeepsDisk c file left
  pub failing : Rose (c.failed_reads file) (c.failed_reads left)
  pub ended : status ≡ failed
  pub told : IsTold e e' disk_words

-- NO STORE AT A PATH: the file is no disk, or a read of the disk failed.
abbrev pub NoStoreAt : {C F : Type 0} → Ghosts C → raw.Ghosts F → (C → F) → (List ℕ → Type 0)
    → List ℕ → Option (List ℕ) → Option (List ℕ) → ℕ → Left F C → Type 0
NoStoreAt {C} {F} c f file_of may_hold path e e' status left =
    ((file : Option F) × (left ≡ left_of file) × IsUnopened f may_hold path e e' status file)
    ⊎ ((disk : C) × (left ≡ in_hand.Disk disk)
    × IsUnshown c f file_of may_hold path e e' status disk)

-- A SESSION WITH THE STORE IN A FILE, over the disk that shows the store. What is left is the disk in
-- the file, as the session left it.
pub record IsFileSession {C D F : Type 0} (c : Ghosts C) (d : Ghosts D) (f : raw.Ghosts F)
    (below : D → C) (file_of : C → F) (may_hold : List ℕ → Type 0) (path : List ℕ)
    (r r' w w' e e' : Option (List ℕ)) (status : ℕ) (left : C) : Type 0 where
  pub disk : D
  pub at : IsStoreAt c d f below file_of may_hold path disk
  pub ended : D
  pub session : SessionOutcome d disk ended r r' w w' e e' status
  pub handed : left ≡ below ended

-- WHAT A SESSION CAME TO WITH A FILE: where there is no store to be opened, nothing was read or
-- written.
abbrev pub FileSessionOutcome : {C D F : Type 0} → Ghosts C → Ghosts D → raw.Ghosts F → (D → C)
    → (C → F) → (List ℕ → Type 0) → List ℕ → Option (List ℕ) → Option (List ℕ) → Option (List ℕ)
    → Option (List ℕ) → Option (List ℕ) → Option (List ℕ) → ℕ → Left F C → Type 0
FileSessionOutcome {C} {D} {F} c d f below file_of may_hold path r r' w w' e e' status left =
    ((disk : C) × (left ≡ in_hand.Disk disk)
    × IsFileSession c d f below file_of may_hold path r r' w w' e e' status disk)
    ⊎ (NoStoreAt c f file_of may_hold path e e' status left × (r' ≡ r) × (w' ≡ w))

-- A CREATION IN A FILE of so many units: a file that was made at this path, where nothing was, of
-- zeros. What is left is the disk, as the creation left it.
pub record IsFileCreation {D F : Type 0} (d : Ghosts D) (f : raw.Ghosts F) (file_of : D → F)
    (path : List ℕ) (units : ℕ) (w w' e e' : Option (List ℕ)) (status : ℕ) (left : D)
    : Type 0 where
  pub disk : D
  pub fresh : IsFresh d disk
  pub long : length (d.content disk) ≡ units * 512
  pub zeros : f.honest → d.content disk ≡ replicate (units * 512) 0
  pub closed : f.honest → d.is_open disk ≡ nowhere
  pub made : f.honest → IsNewAt f.is_new f.path path (file_of disk)
  pub named : IsTrue (f.is_named (file_of disk))
  pub creation : CreationOutcome d disk left units w w' e e' status

-- No disk in a file that was to be made: the fault is told, and what is left in hand is the file
-- that was made, or none was.
pub record IsUnmade {F : Type 0} (f : raw.Ghosts F) (path : List ℕ) (e e' : Option (List ℕ))
    (status : ℕ) (left : Option F) : Type 0 where
  pub fault : FileFault
  pub making : IsOfMake fault
  pub made : f.honest → IsLeftByMaking (IsNewAt f.is_new f.path path) fault left
  pub ended : status ≡ failed
  pub told : IsTold e e' (file_words fault)

-- WHAT A CREATION CAME TO WITH A FILE: where there is no disk, nothing was written to the output.
abbrev pub FileCreationOutcome : {D F : Type 0} → Ghosts D → raw.Ghosts F → (D → F) → List ℕ → ℕ
    → Option (List ℕ) → Option (List ℕ) → Option (List ℕ) → Option (List ℕ) → ℕ → Left F D → Type 0
FileCreationOutcome {D} {F} d f file_of path units w w' e e' status left =
    ((disk : D) × (left ≡ in_hand.Disk disk)
    × IsFileCreation d f file_of path units w w' e e' status disk)
    ⊎ ((file : Option F) × (left ≡ left_of file) × IsUnmade f path e e' status file × (w' ≡ w))

-- A CHECK OF THE STORE IN A FILE, over the disk that shows the store. What is left is the disk in the
-- file, as the check left it.
pub record IsFileCheck {C D F : Type 0} (c : Ghosts C) (d : Ghosts D) (f : raw.Ghosts F)
    (below : D → C) (file_of : C → F) (may_hold : List ℕ → Type 0) (path : List ℕ)
    (w w' e e' : Option (List ℕ)) (status : ℕ) (left : C) : Type 0 where
  pub disk : D
  pub at : IsStoreAt c d f below file_of may_hold path disk
  pub ended : D
  pub check : CheckOutcome d disk ended w w' e e' status
  pub handed : left ≡ below ended

-- WHAT A CHECK CAME TO WITH A FILE: where there is no store to be opened, nothing was written to the
-- output.
abbrev pub FileCheckOutcome : {C D F : Type 0} → Ghosts C → Ghosts D → raw.Ghosts F → (D → C)
    → (C → F) → (List ℕ → Type 0) → List ℕ → Option (List ℕ) → Option (List ℕ) → Option (List ℕ)
    → Option (List ℕ) → ℕ → Left F C → Type 0
FileCheckOutcome {C} {D} {F} c d f below file_of may_hold path w w' e e' status left =
    ((disk : C) × (left ≡ in_hand.Disk disk)
    × IsFileCheck c d f below file_of may_hold path w w' e e' status disk)
    ⊎ (NoStoreAt c f file_of may_hold path e e' status left × (w' ≡ w))

-- A GROWTH OF THE STORE IN A FILE, over a disk that was opened at this path, as it was found. What is
-- left is the file.
pub record IsFileGrowth {D F : Type 0} (d : Ghosts D) (f : raw.Ghosts F) (file_of : D → F)
    (may_hold : List ℕ → Type 0) (path : List ℕ) (units : ℕ) (w w' e e' : Option (List ℕ))
    (status : ℕ) (left : F) : Type 0 where
  pub disk : D
  pub found : IsFoundDisk d f file_of may_hold path disk
  pub growth : GrowthOutcome f (d.content disk) (file_of disk) left units w w' e e' status

-- WHAT A GROWTH CAME TO WITH A FILE: where the file is no disk, nothing was written to the output.
abbrev pub FileGrowthOutcome : {D F : Type 0} → Ghosts D → raw.Ghosts F → (D → F) → (List ℕ → Type 0)
    → List ℕ → ℕ → Option (List ℕ) → Option (List ℕ) → Option (List ℕ) → Option (List ℕ) → ℕ
    → Left F D → Type 0
FileGrowthOutcome {D} {F} d f file_of may_hold path units w w' e e' status left =
    ((file : F) × (left ≡ in_hand.File file)
    × IsFileGrowth d f file_of may_hold path units w w' e e' status file)
    ⊎ ((file : Option F) × (left ≡ left_of file)
    × IsUnopened f may_hold path e e' status file × (w' ≡ w))

-- HELP: all of its text was written, or a part of it where the output failed, and that is told.
abbrev pub HelpOutcome : List ℕ → Option (List ℕ) → Option (List ℕ) → Option (List ℕ)
    → Option (List ℕ) → ℕ → Type 0
HelpOutcome text w w' e e' status =
    ((status ≡ done) × Appends w w' text × (e' ≡ e))
    ⊎ ((status ≡ failed) × IsTold e e' output_words × SentPart w w' text)

-- WHAT CAME OF A COMMAND LINE THAT ASKS FOR NO COMMAND, by why: a fault is told in its text, and it
-- and want of memory write nothing to the output.
abbrev pub RefusalOutcome : Unasked → Option (List ℕ) → Option (List ℕ) → Option (List ℕ)
    → Option (List ℕ) → ℕ → Type 0
RefusalOutcome (unasked.Help text) w w' e e' status = HelpOutcome (string_bytes text) w w' e e' status
RefusalOutcome (unasked.Refused text) w w' e e' status =
    (status ≡ refused) × IsTold e e' (string_bytes text) × (w' ≡ w)
RefusalOutcome unasked.Memory w w' e e' status =
    (status ≡ failed) × IsTold e e' memory_words × (w' ≡ w)

-- A command line of which no command was carried out: help was told or could not be, it was refused,
-- or memory was. Nothing was read.
abbrev pub NoCommandOutcome : List (List ℕ) → Option (List ℕ) → Option (List ℕ) → Option (List ℕ)
    → Option (List ℕ) → Option (List ℕ) → Option (List ℕ) → ℕ → Type 0
NoCommandOutcome words r r' w w' e e' status = (r' ≡ r)
    × ((why : Unasked) × IsUnasked words why × RefusalOutcome why w w' e e' status)
