-- What a watcher sees of what passes.
use Rattle.std.specs.Prelude.{◌≡◌, ℕ, false, List, [], ◌∷◌, ◌++◌, Option, Some, None, IfSome, refl}
use Rattle.std.proofs.Common.{ap, sym, ◌∙◌, append-nil, append_assoc, subst}
use Rattle.std.proofs.KnownBytes.{Appends-nil, Appends-trans, Consumes-nil, Consumes-trans}
use Rattle.std.specs.Io.KnownBytes.{Appends, Consumes, IsAtEnd}
use Rattle.mux_capture.specs.declared.packet.Direction.{Direction}
use Rattle.mux_capture.specs.declared.packet.Direction.TheVariants.{ToModem, FromModem}
use Rattle.mux_capture.specs.declared.packet.Stamp.{Stamp}
use Rattle.mux_capture.specs.Passing.{CaptureState, Captures, HasCaptured, HasStretches, Passed, Renews, Stretch, passed_at}
use Rattle.mux_frame.specs.Reading.{no_flag}
use Rattle.modem_sim.specs.declared.state.ModemState.{ModemState}
use Rattle.ctl_sim.specs.declared.server.Mode.{Mode}
use Rattle.ctl_sim.specs.declared.server.Setup.{Setup}
use Rattle.ctl_sim.specs.declared.serving.SimOptions.{SimOptions}
use Rattle.ctl_sim.specs.Serving.{Answers, AnswersEntering, Entry, IsAnswered, Setting, setting_of, with_more}
use Rattle.ctl_sim.specs.Standing.{IsAtLines, MayBeFrame, Stands, StepsOn, setting_by, with_entry}
use Rattle.ctl_sim.specs.Watching.{BeginsAnew, CapturesAnswers, EndsCapture, Exchanges, History, HoldsNow, IsCaptured, IsWatched, Notes, Passing, PassesOn, SeesPart, SeesPassed, Turns, WatchedAnswers, WatchedSoFar, WatchedWhole, comes, enters, nothing, one_stretch, turn}
use Rattle.ctl_sim.proofs.Entries.{none_more}
use Rattle.ctl_sim.proofs.Leaving.{ServedSoFar}
use Rattle.ctl_sim.proofs.Served.{answers_by, answers_entering, begun_mode}

-- ## Part by part

-- nothing came, nothing went, and nothing was seen
pub passing_none : {X V : Type 0} (Holds : Setting → List ℕ → List ℕ → List Entry → X → List ℕ → Type 0) (Undecided : X → List ℕ) (Sees : V → V → Direction → List ℕ → Type 0) (Begins : V → V → ℕ → Type 0) (s : Setting) (now : X) (first : V) → Undecided now ≡ [] → Holds s [] [] [] now []
    → Passing Holds Undecided Sees Begins s first [] [] now [] first
passing_none Holds Undecided Sees Begins s now first none holds =
    let is : Undecided now ++ [] ≡ [] = append-nil (Undecided now) ∙ none in
    record {
      seen = [];
      entries = [];
      came_is = sym is;
      holds = holds;
      exchanges = subst (λ (l : List ℕ). Exchanges (HoldsNow Holds s) Sees Begins first [] l [] [] first) (sym is) nothing;
    }

-- octets come
pub passing_more : {X V : Type 0} (Holds : Setting → List ℕ → List ℕ → List Entry → X → List ℕ → Type 0) (Undecided : X → List ℕ) (Sees : V → V → Direction → List ℕ → Type 0) (Begins : V → V → ℕ → Type 0)
    → ((s : Setting) (came went : List ℕ) (entries : List Entry) (octets : List ℕ) (x : X) → Holds s came went entries x [] → Holds s (came ++ octets) went (with_more octets [] entries) x octets)
    → (s : Setting) (first : V) (came went : List ℕ) (now : X) (watcher : V) (octets : List ℕ) → Passing Holds Undecided Sees Begins s first came went now [] watcher → Passing Holds Undecided Sees Begins s first (came ++ octets) went now octets watcher
passing_more Holds Undecided Sees Begins brings s first came went now watcher octets p =
    let same : (Undecided now ++ []) ++ octets ≡ Undecided now ++ octets = ap (λ (l : List ℕ). l ++ octets) (append-nil (Undecided now)) in
    record {
      seen = p.seen;
      entries = with_more octets [] p.entries;
      came_is = ap (λ (l : List ℕ). l ++ octets) p.came_is ∙ append_assoc p.seen (Undecided now ++ []) octets ∙ ap (λ (l : List ℕ). p.seen ++ l) same;
      holds = brings s came went p.entries octets now p.holds;
      exchanges =
          subst (λ (l : List ℕ). Exchanges (HoldsNow Holds s) Sees Begins first p.seen l went (with_more octets [] p.entries) watcher) same
          (comes p.seen (Undecided now ++ []) went octets p.entries watcher p.exchanges);
    }

-- by whether a line enters
passing_part : {X V : Type 0} (Holds : Setting → List ℕ → List ℕ → List Entry → X → List ℕ → Type 0) (Undecided : X → List ℕ) (Sees : V → V → Direction → List ℕ → Type 0) (Begins : V → V → ℕ → Type 0)
    → ((s : Setting) (came went : List ℕ) (entries : List Entry) (x : X) (left : List ℕ) → Holds s came went entries x left → MayBeFrame (Undecided x))
    → (s : Setting) (first : V) (came went : List ℕ) (old new : X) (u w : V) (octets left part more : List ℕ) (entered : Option ℕ)
    → Undecided old ++ octets ≡ part ++ (Undecided new ++ left) → (entered ≡ None → left ≡ [])
    → ((es : List Entry) → Holds s came went es old octets → Holds s came (went ++ more) (with_entry (with_more [] more es) entered (Undecided new ++ left)) new left)
    → SeesPart Sees Begins u w part more entered → Passing Holds Undecided Sees Begins s first came went old octets u → Passing Holds Undecided Sees Begins s first came (went ++ more) new left w
passing_part Holds Undecided Sees Begins waits s first came went old new u w octets left part more None ends all stands sees p =
    let whole : came ≡ p.seen ++ (part ++ (Undecided new ++ left)) = p.came_is ∙ ap (λ (l : List ℕ). p.seen ++ l) ends in
    let holds : Holds s came (went ++ more) (with_more [] more p.entries) new left = stands p.entries p.holds in
    record {
      seen = p.seen ++ part;
      entries = with_more [] more p.entries;
      came_is = whole ∙ sym (append_assoc p.seen part (Undecided new ++ left));
      holds = holds;
      exchanges =
          turn p.seen part (Undecided new ++ left) went more p.entries u sees.seen w
          (subst (λ (l : List ℕ). Exchanges (HoldsNow Holds s) Sees Begins first p.seen l went p.entries u) ends p.exchanges)
          (subst (λ (l : List ℕ). HoldsNow Holds s l (went ++ more)) whole
          (record { entries = with_more [] more p.entries; now = new; holds = subst (λ (l : List ℕ). Holds s came (went ++ more) (with_more [] more p.entries) new l) (all refl) holds }))
          (subst MayBeFrame (sym (ap (λ (l : List ℕ). Undecided new ++ l) (all refl) ∙ append-nil (Undecided new))) (waits s came (went ++ more) (with_more [] more p.entries) new left holds))
          sees.part_seen (subst (λ (v : _). Sees sees.seen v FromModem more) (sym sees.begins) sees.said_seen);
    }
passing_part Holds Undecided Sees Begins waits s first came went old new u w octets left part more (Some n1) ends all stands sees p = record {
  seen = p.seen ++ part;
  entries = with_entry (with_more [] more p.entries) (Some n1) (Undecided new ++ left);
  came_is = p.came_is ∙ ap (λ (l : List ℕ). p.seen ++ l) ends ∙ sym (append_assoc p.seen part (Undecided new ++ left));
  holds = stands p.entries p.holds;
  exchanges =
      enters p.seen part (Undecided new ++ left) went more p.entries n1 u sees.seen sees.both w
      (subst (λ (l : List ℕ). Exchanges (HoldsNow Holds s) Sees Begins first p.seen l went p.entries u) ends p.exchanges) sees.part_seen sees.said_seen sees.begins;
}

-- a part is answered and seen; octets are left behind it only where a line enters the multiplexer
pub passes_part : {X V : Type 0} (Holds : Setting → List ℕ → List ℕ → List Entry → X → List ℕ → Type 0) (Undecided : X → List ℕ) (Sees : V → V → Direction → List ℕ → Type 0) (Begins : V → V → ℕ → Type 0)
    → ((s : Setting) (came went : List ℕ) (entries : List Entry) (x : X) (left : List ℕ) → Holds s came went entries x left → MayBeFrame (Undecided x))
    → (s : Setting) (old new : X) (u w : V) (octets left part none said before out : List ℕ) (entered : Option ℕ)
    → Undecided old ++ octets ≡ part ++ (Undecided new ++ left) → (entered ≡ None → left ≡ []) → StepsOn Holds Undecided s old new entered octets left none said → none ≡ [] → SeesPart Sees Begins u w part said entered → (given : List ℕ) → given ≡ said → out ≡ before ++ given
    → PassesOn Holds Undecided Sees Begins s old new u w octets left before out
passes_part Holds Undecided Sees Begins waits s old new u w octets left part none said before out entered ends all steps is_none sees given given_is written =
    let is : said ≡ steps.more = steps.written ∙ ap (λ (l : List ℕ). l ++ steps.more) is_none in
    record {
      more = steps.more;
      written = written ∙ ap (λ (l : List ℕ). before ++ l) (given_is ∙ is);
      passes = λ first came went p.
          passing_part Holds Undecided Sees Begins waits s first came went old new u w octets left part steps.more entered ends all (steps.stands came went)
          (subst (λ (l : List ℕ). SeesPart Sees Begins u w part l entered) is sees) p;
    }

-- two steps, one behind the other
pub passes_both : {X V : Type 0} (Holds : Setting → List ℕ → List ℕ → List Entry → X → List ℕ → Type 0) (Undecided : X → List ℕ) (Sees : V → V → Direction → List ℕ → Type 0) (Begins : V → V → ℕ → Type 0) (s : Setting) (a b c : X) (u v w : V) (octets left given rest x y z : List ℕ)
    → PassesOn Holds Undecided Sees Begins s a b u v octets left x y → given ≡ left → PassesOn Holds Undecided Sees Begins s b c v w given rest y z → PassesOn Holds Undecided Sees Begins s a c u w octets rest x z
passes_both Holds Undecided Sees Begins s a b c u v w octets left given rest x y z p is q = record {
  more = p.more ++ q.more;
  written = q.written ∙ ap (λ (l : List ℕ). l ++ q.more) p.written ∙ append_assoc x p.more q.more;
  passes = λ first came went before.
      subst (λ (l : List ℕ). Passing Holds Undecided Sees Begins s first came l c rest w) (append_assoc went p.more q.more)
      (q.passes first came (went ++ p.more) (subst (λ (l : List ℕ). Passing Holds Undecided Sees Begins s first came (went ++ p.more) b l v) (sym is) (p.passes first came went before)));
}

-- ## Over a reader and a writer

-- nothing was read, and nothing written
pub watched_none : {X V : Type 0} (Holds : Setting → List ℕ → List ℕ → List Entry → X → List ℕ → Type 0) (Undecided : X → List ℕ) (Sees : V → V → Direction → List ℕ → Type 0) (Begins : V → V → ℕ → Type 0) (s : Setting) (input before : Option (List ℕ)) (now : X) (first : V) → Undecided now ≡ [] → Holds s [] [] [] now []
    → WatchedSoFar Holds Undecided Sees Begins s input input before before now first first
watched_none Holds Undecided Sees Begins s input before now first none holds = record {
  came = [];
  went = [];
  read = Consumes-nil input;
  written = Appends-nil before;
  passing = passing_none Holds Undecided Sees Begins s now first none holds;
}

-- a piece came, and what answers it went
pub watched_more : {X V : Type 0} (Holds : Setting → List ℕ → List ℕ → List Entry → X → List ℕ → Type 0) (Undecided : X → List ℕ) (Sees : V → V → Direction → List ℕ → Type 0) (Begins : V → V → ℕ → Type 0)
    → ((s : Setting) (came went : List ℕ) (entries : List Entry) (octets : List ℕ) (x : X) → Holds s came went entries x [] → Holds s (came ++ octets) went (with_more octets [] entries) x octets)
    → (s : Setting) (a b c x y z : Option (List ℕ)) (old new : X) (first u w : V) (piece before out : List ℕ) → WatchedSoFar Holds Undecided Sees Begins s a b x y old first u → Consumes b c piece
    → PassesOn Holds Undecided Sees Begins s old new u w piece [] before out → before ≡ [] → Appends y z out → WatchedSoFar Holds Undecided Sees Begins s a c x z new first w
watched_more Holds Undecided Sees Begins brings s a b c x y z old new first u w piece before out watched read passes none written =
    let says : out ≡ passes.more = passes.written ∙ ap (λ (l : List ℕ). l ++ passes.more) none in
    record {
      came = watched.came ++ piece;
      went = watched.went ++ passes.more;
      read = Consumes-trans a b c watched.came piece watched.read read;
      written = subst (λ (l : List ℕ). Appends x z (watched.went ++ l)) says (Appends-trans x y z watched.went out watched.written written);
      passing = passes.passes first (watched.came ++ piece) watched.went (passing_more Holds Undecided Sees Begins brings s first watched.came watched.went old u piece watched.passing);
    }

-- and no more; what isn't decided is seen then
pub watched_end : {X V : Type 0} (Holds : Setting → List ℕ → List ℕ → List Entry → X → List ℕ → Type 0) (Undecided : X → List ℕ) (Sees : V → V → Direction → List ℕ → Type 0) (Begins : V → V → ℕ → Type 0) (s : Setting) (a b c x y : Option (List ℕ)) (now : X) (first u w : V) (pending out : List ℕ)
    → WatchedSoFar Holds Undecided Sees Begins s a b x y now first u → Consumes b c [] → IsAtEnd c → pending ≡ Undecided now → out ≡ [] → SeesPart Sees Begins u w pending out None → WatchedWhole Holds Sees Begins s a x y first w
watched_end Holds Undecided Sees Begins s a b c x y now first u w pending out watched read end pending_is none sees =
    let p = watched.passing in
    let whole : watched.came ≡ p.seen ++ Undecided now = p.came_is ∙ ap (λ (l : List ℕ). p.seen ++ l) (append-nil (Undecided now)) in
    let holds : Holds s watched.came (watched.went ++ []) (with_more [] [] p.entries) now [] =
    subst (λ (l : List ℕ). Holds s watched.came l (with_more [] [] p.entries) now []) (sym (append-nil watched.went)) (subst (λ (l : List Entry). Holds s watched.came watched.went l now []) (sym (none_more p.entries)) p.holds) in
    record {
      came = watched.came;
      went = watched.went ++ [];
      entries = with_more [] [] p.entries;
      last = now;
      rest = c;
      end = end;
      read = subst (λ (l : List ℕ). Consumes a c l) (append-nil watched.came) (Consumes-trans a b c watched.came [] watched.read read);
      written = subst (λ (l : List ℕ). Appends x y l) (sym (append-nil watched.went)) watched.written;
      holds = holds;
      exchanges =
          subst (λ (l : List ℕ). Exchanges (HoldsNow Holds s) Sees Begins first l [] (watched.went ++ []) (with_more [] [] p.entries) w) (sym whole)
          (turn p.seen (Undecided now) [] watched.went [] p.entries u sees.seen w p.exchanges
          (subst (λ (l : List ℕ). HoldsNow Holds s l (watched.went ++ [])) p.came_is (record { entries = with_more [] [] p.entries; now = now; holds = holds }))
          (record { n1 = 0; text = []; can = no_flag [] refl; is = refl })
          (subst (λ (l : List ℕ). Sees u sees.seen ToModem l) pending_is sees.part_seen)
          (subst (λ (v : _). Sees sees.seen v FromModem []) (sym sees.begins) (subst (λ (l : List ℕ). Sees sees.seen sees.both FromModem l) none sees.said_seen)));
    }

-- what was answered so far
abbrev pub served_so_far : {X V : Type 0} (Holds : Setting → List ℕ → List ℕ → List Entry → X → List ℕ → Type 0) (Undecided : X → List ℕ) (Sees : V → V → Direction → List ℕ → Type 0) (Begins : V → V → ℕ → Type 0) (s : Setting) (a b x y : Option (List ℕ)) (now : X) (first watcher : V)
    → WatchedSoFar Holds Undecided Sees Begins s a b x y now first watcher → ServedSoFar Holds s a b x y now
served_so_far Holds Undecided Sees Begins s a b x y now first watcher watched = record {
  came = watched.came;
  went = watched.went;
  entries = watched.passing.entries;
  read = watched.read;
  written = watched.written;
  holds = watched.passing.holds;
}

-- ## From plain lines on

answered_now : (s : Setting) (came went : List ℕ) → HoldsNow Stands s came went → Answers s came went
answered_now s came went h = answers_by s came went h.entries h.now h.holds

exchanges_for : {V : Type 0} (A B : List ℕ → List ℕ → Type 0) (Sees : V → V → Direction → List ℕ → Type 0) (Begins : V → V → ℕ → Type 0) (first : V) (came kept went : List ℕ) (entries : List Entry) (watcher : V)
    → ((came went : List ℕ) → A came went → B came went) → Exchanges A Sees Begins first came kept went entries watcher → Exchanges B Sees Begins first came kept went entries watcher
exchanges_for A B Sees Begins first _ _ _ _ _ f nothing = nothing
exchanges_for A B Sees Begins first _ _ _ _ _ f (comes came kept went piece es v before) = comes came kept went piece es v (exchanges_for A B Sees Begins first came kept went es v f before)
exchanges_for A B Sees Begins first _ _ _ _ _ f (turn came part kept went more es u v w before answered may_be read written) =
    turn came part kept went more es u v w (exchanges_for A B Sees Begins first came (part ++ kept) went es u f before) (f (came ++ (part ++ kept)) (went ++ more) answered) may_be read written
exchanges_for A B Sees Begins first _ _ _ _ _ f (enters came part kept went more es n1 u v w x before read written begun) =
    enters came part kept went more es n1 u v w x (exchanges_for A B Sees Begins first came (part ++ kept) went es u f before) read written begun

watched_all : {V : Type 0} (Sees : V → V → Direction → List ℕ → Type 0) (Begins : V → V → ℕ → Type 0) (s : Setting) (all : List ℕ) (x y : Option (List ℕ)) (first watcher : V) → WatchedWhole Stands Sees Begins s (Some all) x y first watcher → WatchedAnswers Sees Begins s x y first watcher all
watched_all Sees Begins s all x y first watcher w = by_rest w.rest refl
  where
    by_rest : (rest : Option (List ℕ)) → w.rest ≡ rest → WatchedAnswers Sees Begins s x y first watcher all
    by_rest None is = absurd (subst (λ (o : Option (List ℕ)). Consumes (Some all) o w.came) is w.read)
    by_rest (Some rest) is =
        let read : Consumes (Some all) (Some rest) w.came = subst (λ (o : Option (List ℕ)). Consumes (Some all) o w.came) is w.read in
        let end : IsAtEnd (Some rest) = subst IsAtEnd is w.end in
        let whole : all ≡ w.came = read ∙ ap (λ l. w.came ++ l) end ∙ append-nil w.came in
        record {
          went = w.went;
          entries = w.entries;
          answers = subst (λ (l : List ℕ). AnswersEntering s l w.went w.entries) (sym whole) (answers_entering s w.came w.went w.entries w.last w.holds);
          seen_all =
              exchanges_for (HoldsNow Stands s) (Answers s) Sees Begins first all [] w.went w.entries watcher (answered_now s)
              (subst (λ (l : List ℕ). Exchanges (HoldsNow Stands s) Sees Begins first l [] w.went w.entries watcher) (sym whole) w.exchanges);
          written = w.written;
        }

is_watched : {V : Type 0} (Sees : V → V → Direction → List ℕ → Type 0) (Begins : V → V → ℕ → Type 0) (s : Setting) (input x y : Option (List ℕ)) (first watcher : V) → WatchedWhole Stands Sees Begins s input x y first watcher → IsWatched Sees Begins s input x y first watcher
is_watched Sees Begins s None x y first watcher w = tt
is_watched Sees Begins s (Some all) x y first watcher w = watched_all Sees Begins s all x y first watcher w

-- from plain lines that have just begun on, all that the reader had is answered and seen
pub watched_client : {V : Type 0} (Sees : V → V → Direction → List ℕ → Type 0) (Begins : V → V → ℕ → Type 0) (setup : Setup) (m : ModemState) (mode : Mode) (input x y : Option (List ℕ)) (first watcher : V) → IsAtLines setup m mode
    → ((n : ModemState) → Stands (setting_by setup n) [] [] [] mode [] → WatchedWhole Stands Sees Begins (setting_by setup n) input x y first watcher)
    → IsWatched Sees Begins (setting_by setup m) input x y first watcher
watched_client Sees Begins setup m mode input x y first watcher is serves = is_watched Sees Begins (setting_by setup m) input x y first watcher (serves m (begun_mode setup m mode is))

-- what was answered and seen was answered
pub answered_client : {V : Type 0} (Sees : V → V → Direction → List ℕ → Type 0) (Begins : V → V → ℕ → Type 0) (s : Setting) (input x y : Option (List ℕ)) (first watcher : V) → IsWatched Sees Begins s input x y first watcher → IsAnswered s input x y
answered_client Sees Begins s None x y first watcher w = tt
answered_client Sees Begins s (Some all) x y first watcher w = record { went = w.went; answers = record { entries = w.entries; entering = w.answers }; written = w.written }

-- ## A capture

-- what was seen so far is captured
record CapturedSoFar (s : Setting) (came kept went : List ℕ) (entries : List Entry) (first now : CaptureState) : Type 0 where
  history : History
  exchanged : Exchanges (Answers s) Notes Turns (one_stretch first.n1) came kept went entries history
  n1 : now.n1 ≡ history.now.n1
  captured : (at_first : Option (List ℕ)) → HasCaptured at_first [] first → HasStretches at_first history.over history.now.passed now

captures_on : (old new : CaptureState) (p : Passed) (at_first : Option (List ℕ)) (over : List Stretch) (passed : List Passed) → Captures old new p → HasStretches at_first over passed old → HasStretches at_first over (passed ++ p ∷ []) new
unfolding Captures
captures_on old new p at_first over passed captures h = captures at_first over passed h

renews_on : (old new : CaptureState) (at_first : Option (List ℕ)) (over : List Stretch) (passed : List Passed) (n1 : ℕ) → old.n1 ≡ n1 → Renews old new → HasStretches at_first over passed old → HasStretches at_first (over ++ record { n1 = n1; passed = passed } ∷ []) [] new
unfolding Renews
renews_on old new at_first over passed n1 is renews h = subst (λ (n : ℕ). HasStretches at_first (over ++ record { n1 = n; passed = passed } ∷ []) [] new) is (renews at_first over passed h)

-- a part passed, and what was said to it
abbrev both_on : History → Stamp → Stamp → (part more : List ℕ) → History
both_on h read written part more =
    record { over = h.over; now = record { n1 = h.now.n1; passed = (h.now.passed ++ passed_at read ToModem part ∷ []) ++ passed_at written FromModem more ∷ [] } }

-- and is captured
record BothCaptured (first u w : CaptureState) (h : History) (part more : List ℕ) : Type 0 where
  next : History
  last : History
  notes : Notes h next ToModem part
  notes_said : Notes next last FromModem more
  n1 : w.n1 ≡ last.now.n1
  captured : (at_first : Option (List ℕ)) → HasCaptured at_first [] first → HasStretches at_first last.over last.now.passed w

captured_both : (first u v w : CaptureState) (h : History) (part more : List ℕ) → u.n1 ≡ h.now.n1 → ((at_first : Option (List ℕ)) → HasCaptured at_first [] first → HasStretches at_first h.over h.now.passed u)
    → v.n1 ≡ u.n1 → (stamp : Stamp) × Captures u v (passed_at stamp ToModem part) → w.n1 ≡ v.n1 → (stamp : Stamp) × Captures v w (passed_at stamp FromModem more) → BothCaptured first u w h part more
captured_both first u v w h part more n1 captured n1_read read n1_written written = record {
  next = record { over = h.over; now = record { n1 = h.now.n1; passed = h.now.passed ++ passed_at read.0 ToModem part ∷ [] } };
  last = both_on h read.0 written.0 part more;
  notes = (read.0, refl);
  notes_said = (written.0, refl);
  n1 = n1_written ∙ n1_read ∙ n1;
  captured = λ at_first begun.
      captures_on v w (passed_at written.0 FromModem more) at_first h.over (h.now.passed ++ passed_at read.0 ToModem part ∷ []) written.1
      (captures_on u v (passed_at read.0 ToModem part) at_first h.over h.now.passed read.1 (captured at_first begun));
}

captured_so_far : (s : Setting) (first : CaptureState) (came kept went : List ℕ) (entries : List Entry) (now : CaptureState) → Exchanges (Answers s) SeesPassed BeginsAnew first came kept went entries now → now.failed ≡ false → CapturedSoFar s came kept went entries first now
captured_so_far s first _ _ _ _ _ nothing good = record { history = one_stretch first.n1; exchanged = nothing; n1 = refl; captured = λ at_first h. h }
captured_so_far s first _ _ _ _ _ (comes came kept went piece es v before) good =
    let so_far = captured_so_far s first came kept went es v before good in
    record { history = so_far.history; exchanged = comes came kept went piece es so_far.history so_far.exchanged; n1 = so_far.n1; captured = so_far.captured }
captured_so_far s first _ _ _ _ _ (turn came part kept went more es u v w before answers may_be read written) good =
    let second = written good in
    let one = read second.0 in
    let so_far = captured_so_far s first came (part ++ kept) went es u before one.0 in
    let both = captured_both first u v w so_far.history part more so_far.n1 so_far.captured one.1 one.2 second.1 second.2 in
    record {
      history = both.last;
      exchanged = turn came part kept went more es so_far.history both.next both.last so_far.exchanged answers may_be both.notes both.notes_said;
      n1 = both.n1;
      captured = both.captured;
    }
captured_so_far s first _ _ _ _ _ (enters came part kept went more es n1 u v w x before read written begun) good =
    let third = begun good in
    let second = written third.0 in
    let one = read second.0 in
    let so_far = captured_so_far s first came (part ++ kept) went es u before one.0 in
    let both = captured_both first u v w so_far.history part more so_far.n1 so_far.captured one.1 one.2 second.1 second.2 in
    record {
      history = record { over = both.last.over ++ both.last.now ∷ []; now = record { n1 = n1; passed = [] } };
      exchanged =
          enters came part kept went more es n1 so_far.history both.next both.last (record { over = both.last.over ++ both.last.now ∷ []; now = record { n1 = n1; passed = [] } }) so_far.exchanged
          both.notes both.notes_said refl;
      n1 = third.1;
      captured = λ at_first h. renews_on w x at_first both.last.over both.last.now.passed both.last.now.n1 both.n1 third.2 (both.captured at_first h);
    }

captured_all : (s : Setting) (x y : Option (List ℕ)) (first now last : CaptureState) (all : List ℕ) → WatchedAnswers SeesPassed BeginsAnew s x y first now all → EndsCapture now last → last.failed ≡ false → CapturesAnswers s x y first last all
captured_all s x y first now last all w ends good =
    let over = ends good in
    let so_far = captured_so_far s first all [] w.went w.entries now w.seen_all over.0 in
    record {
      went = w.went;
      entries = w.entries;
      history = so_far.history;
      answers = w.answers;
      exchanged = so_far.exchanged;
      written = w.written;
      captured = λ at_first h. renews_on now last at_first so_far.history.over so_far.history.now.passed so_far.history.now.n1 so_far.n1 over.1 (so_far.captured at_first h);
    }

captured_by : (s : Setting) (input x y : Option (List ℕ)) (first now last : CaptureState) → IsWatched SeesPassed BeginsAnew s input x y first now → EndsCapture now last → last.failed ≡ false → IfSome input (CapturesAnswers s x y first last)
captured_by s None x y first now last w ends good = tt
captured_by s (Some all) x y first now last w ends good = captured_all s x y first now last all w ends good

-- seen by a capture that didn't fail, and ended, it is captured
pub is_captured : (options : SimOptions) (s : Setting) (input x y : Option (List ℕ)) (given first now last : CaptureState) → s ≡ setting_of options → first ≡ given → IsWatched SeesPassed BeginsAnew s input x y first now → EndsCapture now last → last.failed ≡ false
    → IsCaptured options input x y given last
is_captured options s input x y given first now last same begun w ends good =
    subst (λ (t : Setting). IfSome input (CapturesAnswers t x y given last)) same
    (subst (λ (c : CaptureState). IfSome input (CapturesAnswers s x y c last)) begun (captured_by s input x y first now last w ends good))
