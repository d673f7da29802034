-- What calls from C do to an entry.
use Rattle.std.specs.Prelude.{ℕ, Option, None, Some, if◌then◌else◌}
use Rattle.modem_c.specs.Entries.{EntryState}
use Rattle.modem_c.specs.declared.entries.kept.CimbalotyEntry.{CimbalotyEntry}

-- the entry that it holds, if any
abbrev pub entry_of : CimbalotyEntry → Option EntryState
entry_of e = e.handle.held

abbrev pub HasEntry : Option EntryState → (EntryState → Type 0) → Type 0
HasEntry None p = ⊥
HasEntry (Some e) p = p e

-- it holds an entry, and this is true of it
abbrev pub Enters : CimbalotyEntry → (EntryState → Type 0) → Type 0
Enters e p = HasEntry (entry_of e) p

-- it held an entry before, holds one now, and this is true of the two
abbrev pub EntersOn : (old new : CimbalotyEntry) → (EntryState → EntryState → Type 0) → Type 0
EntersOn old new p = Enters old (λ e. Enters new (p e))

-- how many milliseconds an answer is waited for, and how many the modem has to close down
abbrev pub wait_for : EntryState → ℕ
wait_for e = if e.is_closing then 300 else 1000
