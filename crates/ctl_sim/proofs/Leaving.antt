-- What was answered where a client is left at a fault.
use Rattle.std.specs.Result.{result_err}
use Rattle.std.specs.Prelude.{Result, Ok, Err, IfErr, IsErrAnd, ◌≡◌, ◌≢◌, ◌≤◌, ℕ, List, [], ◌∷◌, ◌++◌, length, take, Option, Some, None, ⊤, refl}
use Rattle.std.proofs.Common.{suc, zero, arith, ap, sym, ◌∙◌, append-nil, subst}
use Rattle.std.proofs.KnownBytes.{Appends-trans, Consumes-trans}
use Rattle.std.specs.Io.KnownBytes.{Appends, Consumes}
use Rattle.modem_sim.specs.declared.state.ModemState.{ModemState}
use Rattle.ctl_sim.specs.declared.server.Mode.{Mode}
use Rattle.ctl_sim.specs.declared.server.Mode.TheVariants.{Lines, Mux}
use Rattle.ctl_sim.specs.declared.server.Setup.{Setup}
use Rattle.ctl_text.specs.Writing.{IsBegun}
use Rattle.ctl_sim.specs.declared.fault.ServeFault.{ServeFault}
use Rattle.ctl_sim.specs.Leaving.{BeginsAnswer, IsLeftAt, IsLeftBy, IsOfModem, IsOfModemBy, IsOfReader, LeftSoFar, NextBegins}
use Rattle.ctl_sim.specs.EndlessClients.{IsEndlessAfter, IsEndlessMode, StandsEndless}
use Rattle.ctl_sim.specs.Serving.{Entry, Setting}
use Rattle.ctl_sim.specs.Standing.{IsAtLines, Stands, setting_by}
use Rattle.ctl_sim.proofs.Served.{answers_by, begun_mode}

-- ## By whatever answers

taken_at_most : (n : ℕ) (xs : List ℕ) → length (take n xs) ≤ length xs
taken_at_most zero xs = omega (arith)
taken_at_most (suc n) [] = omega (arith)
taken_at_most (suc n) (x ∷ xs) = let more = taken_at_most n xs in omega (arith, more)

-- a part of a piece is no longer
pub few_taken : (n : ℕ) (xs : List ℕ) → length xs ≤ 4096 → length (take n xs) ≤ 4096
few_taken n xs few = let most = taken_at_most n xs in omega (arith, most, few)

-- some octets of a piece aren't none
pub some_taken : (n : ℕ) (xs : List ℕ) → n ≢ 0 → n ≤ length xs → take n xs ≢ []
some_taken zero xs some bound none = some refl
some_taken (suc n) [] some bound none = omega (arith, bound)
some_taken (suc n) (x ∷ xs) some bound none = cc

-- what faults say of a piece to which nothing is written
pub reader_leaves : (fault : ServeFault) (Begun Endless : Type 0) → IsOfReader fault → IsLeftBy (Some fault) [] [] Begun Endless
reader_leaves ServeFault.Input Begun Endless is = (refl, refl)
reader_leaves ServeFault.EndlessInput Begun Endless is = (refl, refl)
reader_leaves ServeFault.NoMemory Begun Endless is = absurd is
reader_leaves ServeFault.Output Begun Endless is = absurd is
reader_leaves ServeFault.Capture Begun Endless is = absurd is
reader_leaves ServeFault.EndlessModem Begun Endless is = absurd is

-- or of what answers, which leaves a piece
pub modem_leaves : (fault : ServeFault) (piece : List ℕ) (Begun Endless : Type 0) → IsOfModemBy Endless fault → piece ≢ [] → IsLeftBy (Some fault) piece [] Begun Endless
modem_leaves ServeFault.NoMemory piece Begun Endless is some = (some, refl)
modem_leaves ServeFault.EndlessModem piece Begun Endless is some = (some, refl, is)
modem_leaves ServeFault.Input piece Begun Endless is some = absurd is
modem_leaves ServeFault.EndlessInput piece Begun Endless is some = absurd is
modem_leaves ServeFault.Output piece Begun Endless is some = absurd is
modem_leaves ServeFault.Capture piece Begun Endless is some = absurd is

-- neither is of the capture
pub reader_no_capture : (fault : ServeFault) → IsOfReader fault → fault ≢ ServeFault.Capture
reader_no_capture fault is same = subst IsOfReader same is

-- nor is one of what answers
pub modem_no_capture : (Endless : Type 0) (fault : ServeFault) → IsOfModemBy Endless fault → fault ≢ ServeFault.Capture
modem_no_capture Endless fault is same = subst (IsOfModemBy Endless) same is

-- what is so of a modem without an end implies this
pub endless_so : {P Q : Type 0} (fault : ServeFault) → (P → Q) → IsOfModemBy P fault → IsOfModemBy Q fault
endless_so ServeFault.NoMemory so is = is
endless_so ServeFault.EndlessModem so is = so is
endless_so ServeFault.Input so is = is
endless_so ServeFault.EndlessInput so is = is
endless_so ServeFault.Output so is = is
endless_so ServeFault.Capture so is = is

-- of the fault that a result gives on
pub given_so : {A : Type 0} (P : ServeFault → Type 0) (given : Result A ServeFault) (fault : ServeFault) → IsErrAnd given (λ f. f ≡ fault) → P fault → IfErr given P
given_so P (Ok x) fault is so = tt
given_so P (Err f) fault is so = subst P (sym is) so

-- or no more is said of it
pub of_modem : (P : Type 0) (fault : ServeFault) → IsOfModemBy P fault → IsOfModem fault
of_modem P fault is = endless_so {P = P} {Q = ⊤} fault (λ _. tt) is

-- a result gives this fault on
fault_given : {A : Type 0} (given : Result A ServeFault) (fault : ServeFault) → IsErrAnd given (λ f. f ≡ fault) → result_err given ≡ Some fault
fault_given (Ok x) fault h = absurd h
fault_given (Err f) fault h = ap Some h

-- and the client is left as that fault says
pub left_given : {X A : Type 0} (Holds : Setting → List ℕ → List ℕ → List Entry → X → List ℕ → Type 0) (Endless : X → List ℕ → Type 0) (s : Setting) (given : Result A ServeFault) (fault : ServeFault) (input rest x y : Option (List ℕ))
    → IsErrAnd given (λ f. f ≡ fault) → LeftSoFar Holds Endless s (Some fault) input rest x y → LeftSoFar Holds Endless s (result_err given) input rest x y
left_given Holds Endless s given fault input rest x y is left =
    subst (λ (o : Option ServeFault). LeftSoFar Holds Endless s o input rest x y) (sym (fault_given given fault is)) left

-- which isn't the capture's, if the fault isn't
pub given_no_capture : {A : Type 0} (given : Result A ServeFault) (fault : ServeFault) → IsErrAnd given (λ f. f ≡ fault) → fault ≢ ServeFault.Capture → IfErr given (λ f. f ≢ ServeFault.Capture)
given_no_capture (Ok x) fault is other = tt
given_no_capture (Err f) fault is other = λ same. other (sym is ∙ same)

-- so far it was served
pub record ServedSoFar {X : Type 0} (Holds : Setting → List ℕ → List ℕ → List Entry → X → List ℕ → Type 0) (s : Setting) (input rest before after : Option (List ℕ)) (now : X) : Type 0 where
  pub came : List ℕ
  pub went : List ℕ
  pub entries : List Entry
  pub read : Consumes input rest came
  pub written : Appends before after went
  pub holds : Holds s came went entries now []

-- at a piece that isn't answered
pub left_unanswered : {X : Type 0} (Holds : Setting → List ℕ → List ℕ → List Entry → X → List ℕ → Type 0) (Endless : X → List ℕ → Type 0) (s : Setting) (fault : Option ServeFault) (a b c x y : Option (List ℕ)) (now : X) (piece : List ℕ)
    → (so_far : ServedSoFar Holds s a b x y now) → Consumes b c piece → length piece ≤ 4096 → ((Begun : Type 0) → IsLeftBy fault piece [] Begun (StandsEndless Holds Endless s (so_far.came ++ piece)))
    → LeftSoFar Holds Endless s fault a c x y
left_unanswered Holds Endless s fault a b c x y now piece so_far read few begun = record {
  came = so_far.came;
  went = so_far.went;
  piece = piece;
  part = [];
  entries = so_far.entries;
  now = now;
  read = Consumes-trans a b c so_far.came piece so_far.read read;
  few = few;
  stands = so_far.holds;
  begun = begun (NextBegins Holds s so_far.came so_far.went piece []);
  written = subst (λ (l : List ℕ). Appends x y l) (sym (append-nil so_far.went)) so_far.written;
}

-- at a piece whose answer isn't written whole
pub left_unwritten : {X : Type 0} (Holds : Setting → List ℕ → List ℕ → List Entry → X → List ℕ → Type 0) (Endless : X → List ℕ → Type 0) (s : Setting) (fault : ServeFault) (a b c x y z : Option (List ℕ)) (old new : X) (piece before out more : List ℕ) (entries : List Entry)
    → fault ≡ ServeFault.Output → (so_far : ServedSoFar Holds s a b x y old) → Consumes b c piece → length piece ≤ 4096 → piece ≢ [] → Holds s (so_far.came ++ piece) (so_far.went ++ more) entries new [] → out ≡ before ++ more → before ≡ [] → IsBegun y z out
    → LeftSoFar Holds Endless s (Some fault) a c x z
left_unwritten Holds Endless s fault a b c x y z old new piece before out more entries is so_far read few some holds says none begun =
    let same : more ≡ begun.part ++ begun.left = sym (says ∙ ap (λ l. l ++ more) none) ∙ begun.split in
    record {
      came = so_far.came;
      went = so_far.went;
      piece = piece;
      part = begun.part;
      entries = so_far.entries;
      now = old;
      read = Consumes-trans a b c so_far.came piece so_far.read read;
      few = few;
      stands = so_far.holds;
      begun =
          subst (λ (f : ServeFault). IsLeftBy (Some f) piece begun.part (NextBegins Holds s so_far.came so_far.went piece begun.part) (StandsEndless Holds Endless s (so_far.came ++ piece))) (sym is) (
            some,
            record {
              left = begun.left;
              entries = entries;
              next = new;
              stands = subst (λ (l : List ℕ). Holds s (so_far.came ++ piece) (so_far.went ++ l) entries new []) same holds;
            },
          );
      written = Appends-trans x y z so_far.went begun.part so_far.written begun.appended;
    }

-- ## From plain lines on

-- in the multiplexer alone it goes on without an end
endless_after : (s : Setting) (came : List ℕ) → StandsEndless Stands IsEndlessMode s came → IsEndlessAfter s came
endless_after s came h = by_mode h.now h.stands h.endless
  where
    by_mode : (mode : Mode) → Stands s came h.went h.entries mode h.left → IsEndlessMode mode h.left → IsEndlessAfter s came
    by_mode (Lines p) stands endless = absurd endless
    by_mode (Mux mux) stands endless = record { went = h.went; entries = h.entries; mux = mux; left = h.left; stands = stands; endless = endless }

begins_by : (s : Setting) (fault : Option ServeFault) (came went piece part : List ℕ) → IsLeftBy fault piece part (NextBegins Stands s came went piece part) (StandsEndless Stands IsEndlessMode s (came ++ piece))
    → IsLeftBy fault piece part (BeginsAnswer s came went piece part) (IsEndlessAfter s (came ++ piece))
begins_by s None came went piece part h = h
begins_by s (Some ServeFault.Input) came went piece part h = h
begins_by s (Some ServeFault.EndlessInput) came went piece part h = h
begins_by s (Some ServeFault.Capture) came went piece part h = h
begins_by s (Some ServeFault.NoMemory) came went piece part h = h
begins_by s (Some ServeFault.EndlessModem) came went piece part h = (h.0, h.1, endless_after s (came ++ piece) h.2)
begins_by s (Some ServeFault.Output) came went piece part h =
    (h.0, record { left = h.1.left; answers = answers_by s (came ++ piece) (went ++ (part ++ h.1.left)) h.1.entries h.1.next h.1.stands })

left_at : (s : Setting) (fault : Option ServeFault) (input rest x y : Option (List ℕ)) → LeftSoFar Stands IsEndlessMode s fault input rest x y → IsLeftAt s fault input rest x y
left_at s fault None rest x y h = tt
left_at s fault (Some all) rest x y h = record {
  came = h.came;
  went = h.went;
  piece = h.piece;
  part = h.part;
  read = h.read;
  few = h.few;
  answers = answers_by s h.came h.went h.entries h.now h.stands;
  begun = begins_by s fault h.came h.went h.piece h.part h.begun;
  written = h.written;
}

-- a client whose plain lines had just begun is left so
pub left_client : (setup : Setup) (m : ModemState) (mode : Mode) (fault : Option ServeFault) (input rest x y : Option (List ℕ)) → IsAtLines setup m mode
    → ((n : ModemState) → Stands (setting_by setup n) [] [] [] mode [] → LeftSoFar Stands IsEndlessMode (setting_by setup n) fault input rest x y)
    → IsLeftAt (setting_by setup m) fault input rest x y
left_client setup m mode fault input rest x y is leaves = left_at (setting_by setup m) fault input rest x y (leaves m (begun_mode setup m mode is))
