-- What contracts see of a caller, of a listener and of the driver's end, and the desk books. A view also has what an
-- end has seen of its ring: what is promised of handing back and of finding nothing goes as far as that.
use Rattle.std.specs.Prelude.{◌≡◌, ◌≢◌, ℕ, zero, suc, ◌+◌, ◌-◌, ◌^◌, min, ◌∷◌, map, ◌<◌, ◌≤◌, ◌++◌, List, [], length, slice_index_or, replicate, Contains}
use mathlib.Core.Option.{some}
use lib.ListN.{get_elem?}
use Rattle.atomic_table.specs.Seated.{TableId}
use Rattle.ring_id.specs.Rings.{RingId}
use Rattle.at_text.specs.declared.unsolicited.UrcKind.{UrcKind}
use Rattle.modem_desk.specs.declared.request.Request.{Request}
use Rattle.modem_desk.specs.declared.request.Outcome.{Outcome}
use Rattle.modem_desk.specs.declared.request.Urc.{Urc}

-- a caller's place at a desk: its number, the ring of its outcomes, the number of its first request
pub record Place : Type 0 where
  pub queue : TableId
  pub number : ℕ
  pub ring : RingId
  pub first : ℕ

-- a caller: what it submitted and, for each of these requests, how many outcomes it had taken before; the outcomes that it took
-- and those that it has seen to wait for it, and its count of untaken ones
pub record CallerView : Type 0 where
  pub place : Place
  pub submitted : List Request
  pub got_before : List ℕ
  pub got : List Outcome
  pub seen : List Outcome
  pub untaken : ℕ

-- a listener's subscription at a desk: its place among the listeners, its kind, the ring of its lines
pub record Subscription : Type 0 where
  pub place : ℕ
  pub kind : UrcKind
  pub ring : RingId

-- a listener: the lines that it took, and those that it has seen to wait for it
pub record ListenerView : Type 0 where
  pub subscription : Subscription
  pub heard : List Urc
  pub seen : List Urc

-- a desk: its queue, a ring for each caller, and for each listener its kind and its ring
pub record DeskId : Type 0 where
  pub queue : TableId
  pub rings : List RingId
  pub kinds : List UrcKind
  pub line_rings : List RingId

-- the driver's end: what it took, what it told each caller, and what it announced to each listener; of each
-- caller's and each listener's ring, how many places it knows to be free; and how often it found no request,
-- and handed an outcome of each caller or a line of each listener back
pub record DriverView : Type 0 where
  pub desk : DeskId
  pub taken : List Request
  pub told : List (List Outcome)
  pub announced : List (List Urc)
  pub free : List ℕ
  pub free_lines : List ℕ
  pub found_none : ℕ
  pub told_back : List ℕ
  pub announced_back : List ℕ

-- n numbers from `first`, one after the other
abbrev pub count_from : ℕ → ℕ → List ℕ
count_from first zero = []
count_from first (suc n) = count_from first n ++ (first + n) ∷ []

-- the requests are numbered one after the other from the first number
abbrev pub IsNumbered : ℕ → List Request → Type 0
IsNumbered first rs = map (λ r. r.number) rs ≡ count_from first (length rs)

-- a caller's place
abbrev pub place_of : CallerView → Place
place_of c = c.place

-- a listener's subscription
abbrev pub subscription_of : ListenerView → Subscription
subscription_of l = l.subscription

-- a caller that has done nothing yet
abbrev pub IsFresh : CallerView → Type 0
IsFresh c = (c.submitted ≡ []) × (c.got ≡ []) × (c.untaken ≡ 0) × (c.seen ≡ []) × (c.got_before ≡ [])

-- no kind stands in the list twice
abbrev pub EachOnce : List UrcKind → Type 0
EachOnce [] = Unit {0}
EachOnce (k ∷ ks) = (¬ Contains ks k) × EachOnce ks

-- the place is one at the desk
abbrev pub IsAt : DeskId → Place → Type 0
IsAt d p = (p.queue ≡ d.queue) × (get_elem? d.rings p.number ≡ some p.ring)

-- the listener's subscription is one at the desk
abbrev pub IsSubscribed : DeskId → Subscription → Type 0
IsSubscribed d e = (get_elem? d.kinds e.place ≡ some e.kind) × (get_elem? d.line_rings e.place ≡ some e.ring)

-- the list at place n has the element more, and every other list is the same
pub record Appends {A : Type 0} (n : ℕ) (x : A) (old new : List (List A)) : Type 0 where
  pub here : slice_index_or new n [] ≡ slice_index_or old n [] ++ x ∷ []
  pub others : (k : ℕ) → k ≢ n → slice_index_or new k [] ≡ slice_index_or old k []

-- what was announced to a listener of the line's kind has the line more, and that of every other listener is the same
pub record Announces (kinds : List UrcKind) (line : Urc) (old new : List (List Urc)) : Type 0 where
  pub here :
      (k : ℕ) → get_elem? kinds k ≡ some line.kind
      → slice_index_or new k [] ≡ slice_index_or old k [] ++ line ∷ []
  pub others :
      (k : ℕ) → (get_elem? kinds k ≡ some line.kind → ⊥) → slice_index_or new k [] ≡ slice_index_or old k []

-- the counts at these places changed in this way, and every other count is the same
pub record Changes (at : ℕ → Type 0) (how : ℕ → ℕ → Type 0) (old new : List ℕ) : Type 0 where
  pub here : (k : ℕ) → at k → how (slice_index_or old k 0) (slice_index_or new k 0)
  pub others : (k : ℕ) → (at k → ⊥) → slice_index_or new k 0 ≡ slice_index_or old k 0

-- a count fell by one at most
abbrev pub FallsByOne : ℕ → ℕ → Type 0
FallsByOne old new = old ≤ new + 1

-- a count is 0 now
abbrev pub RunsOut : ℕ → ℕ → Type 0
RunsOut old new = new ≡ 0

-- a count is one more, but never above u64::MAX
abbrev pub RisesByOne : ℕ → ℕ → Type 0
RisesByOne old new = new ≡ min (old + 1) (2 ^ 64 - 1)

-- the places of listeners of this kind
abbrev pub Hears : List UrcKind → UrcKind → ℕ → Type 0
Hears kinds kind k = get_elem? kinds k ≡ some kind

-- P of each element and its index
abbrev pub Each : {A : Type 0} → (ℕ → A → Type 0) → List A → Type 0
Each {A} P xs = (i : ℕ) (a : A) → get_elem? xs i ≡ some a → P i a

-- the i-th caller has the number i and its place at the desk, begins with this first number, and has done
-- nothing yet
abbrev pub AreNewCallers : DeskId → ℕ → List CallerView → Type 0
AreNewCallers d first =
    Each (λ i c. IsAt d c.place × (c.place.number ≡ i) × (c.place.first ≡ first) × IsFresh c)

-- the i-th listener has the i-th place of the desk, and has taken nothing yet
abbrev pub AreNewListeners : DeskId → List ListenerView → Type 0
AreNewListeners d =
    Each (λ i l. IsSubscribed d l.subscription × (l.subscription.place ≡ i) × (l.heard ≡ []) × (l.seen ≡ []))

-- a desk may be opened with so many callers, these kinds and this first number
abbrev pub CanOpen : ℕ → List UrcKind → ℕ → Type 0
CanOpen callers kinds first = (1 ≤ callers) × (callers ≤ 8) × (1 ≤ first) × EachOnce kinds

-- the places are all at this desk, and each number that it gave out is that of one of them
abbrev pub IsWhole : DeskId → List Place → Type 0
IsWhole d ps =
    Each (λ _ p. IsAt d p) ps
    × ((k : ℕ) → k < length d.rings → (i : ℕ) × (p : Place) × (get_elem? ps i ≡ some p) × (p.number ≡ k))

-- the listeners' subscriptions are all at this desk
abbrev pub AreSubscribed : DeskId → List Subscription → Type 0
AreSubscribed d = Each (λ _ e. IsSubscribed d e)

-- a desk as it is opened: so many callers with this first number, a listener for each of these kinds, and
-- nothing done yet
pub record Opened (count : ℕ) (listened : List UrcKind) (first : ℕ) (d : DriverView) (cs : List CallerView)
    (ls : List ListenerView) : Type 0 where
  pub rings : length d.desk.rings ≡ count
  pub kinds : d.desk.kinds ≡ listened
  pub taken : d.taken ≡ []
  pub told : d.told ≡ replicate count []
  pub announced : d.announced ≡ replicate (length listened) []
  pub free : (d.free ≡ replicate count 8) × (d.free_lines ≡ replicate (length listened) 256)
  pub none_found : d.found_none ≡ 0
  pub none_back : (d.told_back ≡ replicate count 0) × (d.announced_back ≡ replicate (length listened) 0)
  pub callers : (length cs ≡ count) × AreNewCallers d.desk first cs
  pub listeners : (length ls ≡ length listened) × AreNewListeners d.desk ls
  pub whole : IsWhole d.desk (map place_of cs)
  pub subscribed : AreSubscribed d.desk (map subscription_of ls)
