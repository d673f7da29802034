-- The rule of a desk's request queue: a caller's requests that the driver took, and then those in the queue, are those
-- that it submitted.
use Rattle.std.specs.Prelude.{◌≡◌, ℕ, ◌<◌, ◌≤◌, ◌==◌, true, false, List, [], ◌∷◌, ◌++◌, length, Option, Some, None}
use Rattle.std.specs.List.{filter}
use mathlib.Core.Option.{some}
use lib.ListN.{get_elem?}
use Rattle.modem_desk.specs.declared.request.Request.{Request}
use Rattle.modem_desk.specs.declared.rule.Known.{Known}
use Rattle.modem_desk.specs.declared.rule.View.{View}
use Rattle.modem_desk.specs.Ends.{IsNumbered}

-- a caller's requests among these, in order
abbrev pub of_caller : ℕ → List Request → List Request
of_caller n = filter (λ r. r.caller == n)

-- these requests are numbered one after the other from some number
pub record IsCounted (rs : List Request) : Type 0 where
  pub first : ℕ
  pub numbered : IsNumbered first rs

-- the requests of each caller among these are numbered one after the other: no caller used a number twice
abbrev pub AreNumbered : List Request → Type 0
AreNumbered rs = (n : ℕ) → IsCounted (of_caller n rs)

-- what the desk knows of a caller that has left: its number, and what it had submitted
abbrev pub known : ℕ → List Request → Known
known n submitted = record { number = n; submitted = submitted }

-- what the driver's pass knows: how many numbers were given out, what it took, and whom it knows to have left
abbrev pub driver : ℕ → List Request → List Known → View
driver given taken known = record {
  drives = true;
  submits = false;
  number = 0;
  submitted = [];
  got = 0;
  got_before = [];
  given = given;
  taken = taken;
  known = known;
  counted = false;
  waiting = [];
}

-- what the driver's pass knows at a settlement: also what waits
abbrev pub draining : ℕ → List Request → List Known → List Request → View
draining given taken known waiting = record {
  drives = true;
  submits = false;
  number = 0;
  submitted = [];
  got = 0;
  got_before = [];
  given = given;
  taken = taken;
  known = known;
  counted = true;
  waiting = waiting;
}

-- what a caller's pass knows: its number, what it submitted, how many outcomes it got, and how many it had got before each request
abbrev pub caller : (number : ℕ) → (submitted : List Request) → (got : ℕ) → (got_before : List ℕ) → View
caller n submitted got got_before = record {
  drives = false;
  submits = true;
  number = n;
  submitted = submitted;
  got = got;
  got_before = got_before;
  given = 0;
  taken = [];
  known = [];
  counted = false;
  waiting = [];
}

-- what a pass knows that was taken back
abbrev pub returned_view : View
returned_view = record {
  drives = false;
  submits = false;
  number = 0;
  submitted = [];
  got = 0;
  got_before = [];
  given = 0;
  taken = [];
  known = [];
  counted = false;
  waiting = [];
}

-- what all passes share: the driver's pass, the pass of each caller that has not left, and the driver's own
-- counts and lists
pub record Shared : Type 0 where
  pub reader : ℕ
  pub pass_of : ℕ → Option ℕ
  pub given : ℕ
  pub taken : List Request
  pub known : List Known
  pub all : List Request

-- The driver knows how many numbers were given out, what it took, and what each caller that has left had
-- submitted. Once it has counted what waits, nothing more comes.
pub record FitsDriver (d : Shared) (items : List Request) (pass : ℕ) (v : View) : Type 0 where
  pub here : pass ≡ d.reader
  pub given : v.given ≡ d.given
  pub taken : v.taken ≡ d.taken
  pub known : v.known ≡ d.known
  pub counted : v.counted ≡ true → (v.waiting ≡ items) × ((n : ℕ) → d.pass_of n ≡ None)

-- A caller knows its number and what it submitted.
pub record FitsCaller (d : Shared) (pass : ℕ) (v : View) : Type 0 where
  pub here : d.pass_of v.number ≡ Some pass
  pub below : v.number < d.given
  pub submitted : of_caller v.number d.all ≡ v.submitted

-- A pass that was taken back is of neither kind, and nothing is asked of it.
abbrev pub FitsPass : Shared → List Request → ℕ → View → Type 0
FitsPass d items pass v =
    (v.drives ≡ true → FitsDriver d items pass v) × (v.submits ≡ true → FitsCaller d pass v)

-- All that came through the queue is what the driver took and then what is queued. No request has a number that wasn't
-- given out, and no caller has it. The requests of a caller that has left are those that it had submitted. The requests
-- of each caller are numbered one after the other. Each pass knows what fits.
pub record RuleKept (items : List Request) (views : List View) : Type 0 where
  pub desk : Shared
  pub whole : desk.all ≡ desk.taken ++ items
  pub room : length items ≤ 64
  pub numbered : AreNumbered desk.all
  pub later : (n : ℕ) → desk.given ≤ n → (desk.pass_of n ≡ None) × (of_caller n desk.all ≡ [])
  pub left :
      (i : ℕ) (k : Known) → get_elem? desk.known i ≡ some k
      → (k.number < desk.given) × (desk.pass_of k.number ≡ None) × (of_caller k.number desk.all ≡ k.submitted)
  pub each : (pass : ℕ) (v : View) → get_elem? views pass ≡ some v → FitsPass desk items pass v

-- every number that was given out is of a caller that has left
abbrev pub AllLeft : View → Type 0
AllLeft v = (n : ℕ) → n < v.given → (i : ℕ) × (k : Known) × (get_elem? v.known i ≡ some k) × (k.number ≡ n)

-- the driver took x, and knows what waits behind it
abbrev pub DrainsOne : View → Request → View → Type 0
DrainsOne v x w =
    (rest : List Request) × (w ≡ draining v.given (v.taken ++ x ∷ []) v.known rest) × (x.caller < v.given)
    × (length rest < 64) × (v.counted ≡ true → v.waiting ≡ x ∷ rest)

-- the requests of each caller that has left, those taken and then those that wait, are those that it had submitted
abbrev pub IsDrained : View → List Request → Type 0
IsDrained v items =
    ((i : ℕ) (k : Known) → get_elem? v.known i ≡ some k → of_caller k.number (v.taken ++ items) ≡ k.submitted)
    × (v.counted ≡ true → v.waiting ≡ items)
