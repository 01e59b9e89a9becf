-- What windows hold, and what a call leaves of them.
use Rattle.std.specs.Prelude.{◌≡◌, ◌≤◌, ◌<◌, ◌+◌, ◌-◌, ℕ, List, length, min, take, drop}
use Rattle.std.specs.Prelude.{Result, IsOk, OnOk}
use Rattle.std.proofs.Common.{arith}
use Rattle.pk_posting.specs.declared.source.SourceFault.{SourceFault}
use Rattle.pk_posting.specs.Source.{full_count}
use Rattle.pk_dict.specs.declared.windows.Window.{Window}

-- how many bytes a window reads at once
abbrev pub window_bytes : ℕ
window_bytes = 128

-- what a window holds is what stands in the source
pub record IsPartOf (honest : Type 0) (content : List ℕ) (w : Window) : Type 0 where
  pub few : w.held ≤ window_bytes
  pub inside : w.at + w.held ≤ length content
  pub value : honest → take w.held w.buffer ≡ take w.held (drop w.at content)

-- the n bytes at a place are among those that a window holds
pub record Holds (w : Window) (at n : ℕ) : Type 0 where
  pub some : 0 < w.held
  pub after : w.at ≤ at
  pub before : at + n ≤ w.at + w.held

-- what a call that wanted the n bytes at a place leaves of the window that they go by: the source
-- below has `size` bytes, and was asked `asked` times before and `asked_now` times then
pub record IsHeld {T : Type 0} (at n size asked : ℕ) (w : Window) (result : Result T SourceFault)
    (w_now : Window) (asked_now : ℕ) : Type 0 where
  -- what it holds it does not ask for again, and keeps
  pub known : Holds w at n → IsOk result × (asked_now ≡ asked) × (w_now ≡ w)
  -- anything else it asks for once
  pub once : (Holds w at n → ⊥) → at + n ≤ size → asked_now ≡ min (asked + 1) full_count
  -- it reads as much as follows, and holds that from then on
  pub other : (Holds w at n → ⊥)
      → OnOk result ((w_now.at ≡ at) × (w_now.held ≡ min (size - at) window_bytes))
  -- past the end nothing is read
  pub past : size < at + n → asked_now ≡ asked

-- what a call that wanted more bytes than a window holds leaves of both
pub record IsPassed {T : Type 0} (at n size asked : ℕ) (offsets groups : Window)
    (result : Result T SourceFault) (offsets_now groups_now : Window) (asked_now : ℕ)
    : Type 0 where
  pub once : at + n ≤ size → asked_now ≡ min (asked + 1) full_count
  pub past : size < at + n → asked_now ≡ asked
  pub kept : OnOk result ((offsets_now ≡ offsets) × (groups_now ≡ groups))

-- what a call that wanted the n bytes at a place leaves of both windows: a stretch that begins
-- below `split` goes by the first of them, any other by the second, and neither drops what the
-- other one holds
pub record IsAskedBelow {T : Type 0} (at n size split asked : ℕ) (offsets groups : Window)
    (result : Result T SourceFault) (offsets_now groups_now : Window) (asked_now : ℕ)
    : Type 0 where
  pub offset : n ≤ window_bytes → at < split
      → IsHeld at n size asked offsets result offsets_now asked_now
      × OnOk result (groups_now ≡ groups)
  pub group : n ≤ window_bytes → split ≤ at
      → IsHeld at n size asked groups result groups_now asked_now
      × OnOk result (offsets_now ≡ offsets)
  pub long : window_bytes < n
      → IsPassed at n size asked offsets groups result offsets_now groups_now asked_now

-- between two moments the source below was asked no more often than the windows; their count stays
-- at its greatest, and so does that of the source
pub record AsksNoMore (asked asked_now below below_now : ℕ) : Type 0 where
  pub later : asked ≤ asked_now
  pub few : asked_now < full_count → below_now + asked ≤ below + asked_now
  pub most : full_count < below_now → below_now ≤ below

-- between a moment and itself nothing is asked
pub asks_none : (asked below : ℕ) → AsksNoMore asked asked below below
asks_none asked below = record { later = omega arith; few = λ _. omega arith; most = λ _. omega arith }

-- and what holds up to a moment and from there on holds throughout
pub asks_then : (asked asked' asked'' below below' below'' : ℕ) → AsksNoMore asked asked' below below' → AsksNoMore asked' asked'' below' below'' → AsksNoMore asked asked'' below below''
asks_then asked asked' asked'' below below' below'' first second = record {
  later = omega (arith, first.later, second.later);
  few = λ less. omega (arith, first.few (omega (arith, second.later, less)), second.few less);
  most = λ more. let back = second.most more in omega (arith, back, first.most (omega (arith, more, back)));
}
