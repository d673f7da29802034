-- What the parts of a settlement keep.
use Rattle.std.specs.Prelude.{◌≡◌, ℕ, ◌≤◌, ◌<◌, ◌++◌, List, [], All, length, vec_capacity, slice_index_or}
use Rattle.std.specs.declared.vec.Vec.{Vec}
use Rattle.std.specs.declared.alloc.Global.{Global}
use mathlib.Core.Option.{some}
use lib.ListN.{get_elem?}
use Rattle.modem_desk.specs.declared.request.Outcome.{Outcome}
use Rattle.modem_desk.specs.declared.request.Urc.{Urc}
use Rattle.modem_desk.specs.declared.rule.Known.{Known}
use Rattle.modem_desk.specs.declared.settling.Room.{Room}
use Rattle.modem_desk.specs.Rule.{known}
use Rattle.modem_desk.specs.Ends.{CallerView, ListenerView, DeskId, Each, IsAt, IsSubscribed}

-- this many lists, all empty, with room for so much each
abbrev pub AreRooms : {T : Type 0} → ℕ → ℕ → List (Vec T Global) → Type 0
AreRooms count each vs = (length vs ≡ count) × All (λ v. (v.items ≡ []) × (each ≤ vec_capacity v)) vs

-- what the desk knows of a caller that has left
abbrev pub known_of : CallerView → Known
known_of c = known c.place.number c.submitted

-- the callers are all at this desk, and each of the n numbers is that of one of them
abbrev pub AreWhole : DeskId → ℕ → List CallerView → Type 0
AreWhole d n cs = Each (λ _ c. IsAt d c.place) cs
    × ((k : ℕ) → k < n → (i : ℕ) × (c : CallerView) × (get_elem? cs i ≡ some c) × (c.place.number ≡ k))

-- the listeners are all at this desk
abbrev pub AreListenersAt : DeskId → List ListenerView → Type 0
AreListenersAt d = Each (λ _ l. IsSubscribed d l.subscription)

-- what each caller took, and then what waited for it, is what it was told
abbrev pub HeldFor : List (List Outcome) → List CallerView → List (List Outcome) → Type 0
HeldFor told cs waiting =
    Each (λ i c. c.got ++ slice_index_or waiting i [] ≡ slice_index_or told c.place.number []) cs

-- what each listener took, and then what waited for it, is what was announced to it
abbrev pub HeardBy : List (List Urc) → List ListenerView → List (List Urc) → Type 0
HeardBy announced ls waiting =
    Each (λ i l. l.heard ++ slice_index_or waiting i [] ≡ slice_index_or announced l.subscription.place []) ls

-- there is memory for what may be left, and for what may wait for so many callers and listeners
abbrev pub IsRoomFor : ℕ → ℕ → Room → Type 0
IsRoomFor callers listeners r = (r.left.items ≡ []) × (64 ≤ vec_capacity r.left)
    × AreRooms callers 8 r.outcomes.empty.items × (r.outcomes.filled.items ≡ [])
    × (callers ≤ vec_capacity r.outcomes.filled)
    × AreRooms listeners 256 r.lines.empty.items × (r.lines.filled.items ≡ [])
    × (listeners ≤ vec_capacity r.lines.filled)
