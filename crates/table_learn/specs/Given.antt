-- What the learner requires of its settings and windows.
use Rattle.std.specs.Prelude.{◌≢◌, ◌≤◌, List, All, length}
use Rattle.thumb_instr.specs.declared.instr.Instr.{Instr}
use Rattle.thumb_instr.specs.declared.items.Mask.{Mask}
use Rattle.seq_enum.specs.Alphabet.{IsOver}
use Rattle.bit_blast.specs.Exactness.{IsMaskOver}
use Rattle.table_audit.specs.Shorter.{named_count, IsCanonicalSide}
use Rattle.rule_table.specs.declared.header.Header as code
use Rattle.rule_table.specs.Header.{IsHeader}
use Rattle.rule_table.specs.Views.{header_of}
use Rattle.table_learn.specs.Learnt.{Settings, Window}

abbrev pub settings_of : code.Header → Settings
settings_of s = header_of s

-- each setting lies within the limits of its line; a table is learnt in version 1 or 2, or with costs in version 4
pub record AreInLimits (s : Settings) : Type 0 where
  pub header : IsHeader s
  pub version : s.version ≢ 3

abbrev pub window_of : List Instr × Mask → Window
window_of p = record { seq = p.0; mask = p.1.items.bits }

-- a window is its own canonical form, keeps the settings' limits of length and registers, and has no numbers but the pool's; its mask has no other registers
pub record IsWindow (s : Settings) (w : Window) : Type 0 where
  pub canonical : IsCanonicalSide w.seq
  pub short : length w.seq ≤ s.left
  pub few : named_count w.seq ≤ s.regs
  pub over : IsOver (named_count w.seq) s.pool w.seq
  pub mask : IsMaskOver (named_count w.seq) w.mask

abbrev pub AreWindows : Settings → List Window → Type 0
AreWindows s windows = All (IsWindow s) windows
