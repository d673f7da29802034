-- The desk books: what was submitted, taken and queued, what was told, taken and waits, and the same for
-- lines.
use Rattle.std.specs.Prelude.{◌≡◌, ◌<◌, ◌++◌, [], List, All, length, slice_index_or}
use Rattle.modem_desk.specs.declared.request.Request.{Request}
use Rattle.modem_desk.specs.declared.request.Outcome.{Outcome}
use Rattle.modem_desk.specs.declared.request.Urc.{Urc}
use Rattle.modem_desk.specs.Rule.{of_caller}
use Rattle.modem_desk.specs.Ends.{CallerView, ListenerView, DriverView, Each, IsNumbered}

-- A caller's books: its requests among those taken, and then its requests still queued, are those that it submitted,
-- numbered one after the other from its first number. The outcomes that it took, and then those that wait for it, are
-- those told to it.
pub record OfCaller (taken queued : List Request) (told waiting : List Outcome) (c : CallerView) :
    Type 0 where
  pub order : of_caller c.place.number taken ++ of_caller c.place.number queued ≡ c.submitted
  pub numbered : IsNumbered c.place.first c.submitted
  pub outcomes : c.got ++ waiting ≡ told

-- A listener's books: the lines that it took, and then those that wait for it, are those announced to it.
pub record OfListener (announced waiting : List Urc) (l : ListenerView) : Type 0 where
  pub lines : l.heard ++ waiting ≡ announced

-- The desk books of these callers and listeners, where these requests are queued, and these outcomes and lines wait for
-- each in turn.
pub record DeskBooks (d : DriverView) (cs : List CallerView) (ls : List ListenerView) (queued : List Request)
    (untaken : List (List Outcome)) (unheard : List (List Urc)) : Type 0 where
  pub callers :
      Each
      (λ i c.
      OfCaller d.taken queued (slice_index_or d.told c.place.number []) (slice_index_or untaken i []) c)
      cs
  pub listeners :
      Each
      (λ i l.
      OfListener (slice_index_or d.announced l.subscription.place []) (slice_index_or unheard i []) l)
      ls
  pub one_each : (length untaken ≡ length cs) × (length unheard ≡ length ls)
  pub of_callers : All (λ r. r.caller < length d.desk.rings) queued
