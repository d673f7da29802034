-- What a modem for a client does with octets: at plain lines, and in the multiplexer.
use Rattle.std.specs.Prelude.{◌≡◌, ℕ, ◌==◌, ◌+◌, ◌-◌, ◌<◌, ◌≤◌, min, Bool, true, false, List, [], ◌∷◌, ◌++◌, Option, Some, None, is_some, option_map, take, drop, length, refl}
use Rattle.std.proofs.Common.{suc, zero, arith, ap, sym, ◌∙◌, append_assoc, append-nil, length-append, length-drop, subst}
use Rattle.std.proofs.lemmas.Bool.{false≢true}
use Rattle.std.proofs.lemmas.List.{take-append-drop, take-append-le, take_all}
use Rattle.mux_frame.specs.Frames.{Frame}
use Rattle.mux_frame.specs.Laws.{AreOctets, GoesOn}
use Rattle.mux_frame.specs.Reading.{Reads, cut_short, fill, no_flag}
use Rattle.mux_frame.specs.Spelling.{flag, Spells}
use Rattle.mux_frame.proofs.readings.TextReadings.{one_reading}
use Rattle.mux_frame.proofs.readings.LaterTexts.{cut_none, reads_on, reads_written}
use Rattle.mux_frame.proofs.readings.ComputedReadings.{octets_both, reads_beginning}
use Rattle.modem_sim.specs.declared.state.ModemState.{ModemState}
use Rattle.modem_sim.specs.declared.script.Step.{Step}
use Rattle.modem_sim.specs.Acts.{Act, End}
use Rattle.modem_sim.specs.Cores.{IsLater}
use Rattle.modem_sim.specs.Histories.{got}
use Rattle.modem_sim.specs.Sims.{SimState, modem_of}
use Rattle.modem_sim.specs.Heard.{modem_after}
use Rattle.ctl_sim.specs.declared.server.Mode.{Mode}
use Rattle.ctl_sim.specs.declared.server.Mode.TheVariants.{Lines, Mux}
use Rattle.ctl_sim.specs.declared.server.Setup.{Setup}
use Rattle.mux_capture.specs.FirstFrame.{ReadsFirst, first}
use Rattle.mux_capture.specs.FrontFrames.{IsFrameText, PassesOver}
use Rattle.ctl_sim.specs.HeldLine.{HeldState}
use Rattle.ctl_sim.specs.InMux.{Closes, ClosesDown, Handles, closes_0, closes_down, mux_end, octets_sent}
use Rattle.ctl_sim.specs.MuxStates.{MuxState}
use Rattle.ctl_sim.specs.Muxes as muxes
use Rattle.ctl_sim.specs.Muxes.{FitsMux, IsDown, IsEndedBy, IsFed, Rests}
use Rattle.ctl_sim.specs.Plain.{Plain, plain_after, plain_begun}
use Rattle.ctl_sim.specs.Serving as stage
use Rattle.ctl_sim.specs.Serving.{AnswersFrom, EntersAfter, Entry, Setting, plain_by_now, with_more}
use Rattle.ctl_sim.specs.Standing.{AtLines, AtMux, EndsWith, HandlesText, Hears, IsEntered, Stands, StepsOn, at_lines, enters, held, in_mux, once_entered, undecided, unsaid, weight, with_entry, with_said}
use Rattle.ctl_sim.specs.Coming.{more_twice}
use Rattle.ctl_sim.proofs.Entries.{entry_more, none_more}
use Rattle.ctl_sim.proofs.Served.{after_none, both_served}

-- what is said first goes in front of what goes to more that comes
says : (s : Setting) (came went said later more : List ℕ) (entries es : List Entry)
    → AnswersFrom s (stage.Lines s.modem) (came ++ later) (went ++ (said ++ more)) (with_more later (said ++ more) entries ++ es)
    → AnswersFrom s (stage.Lines s.modem) (came ++ later) ((went ++ said) ++ more) (with_more later more (with_more [] said entries) ++ es)
says s came went said later more entries es answers =
    subst (λ (l : List ℕ). AnswersFrom s (stage.Lines s.modem) (came ++ later) l (with_more later more (with_more [] said entries) ++ es)) (sym (append_assoc went said more))
    (subst (λ (l : List Entry). AnswersFrom s (stage.Lines s.modem) (came ++ later) (went ++ (said ++ more)) (l ++ es)) (sym (more_twice [] said later more entries)) answers)

-- ## At plain lines

-- these octets are taken behind others
lines_on : (s : Setting) (came went : List ℕ) (entries : List Entry) (left : List ℕ) (p : Plain) (piece : List ℕ) → (at : AtLines s came went entries p left) → plain_by_now s at.modem (at.lines ++ piece) ≡ with_said (plain_by_now s at.modem at.lines).said (plain_after p piece)
lines_on s came went entries left p piece at =
    both_served (plain_begun s.n1 at.modem) at.lines piece ∙ ap (λ q. with_said (plain_by_now s at.modem at.lines).said (plain_after q piece)) (sym at.plain_is)

-- what goes to the octets behind them goes behind what they are told
leads_on : (s : Setting) (came went piece behind : List ℕ) (entries : List Entry) (p : Plain) → (at : AtLines s came went entries p (piece ++ behind)) → (later more : List ℕ) (es : List Entry)
    → AnswersFrom s (stage.Lines at.modem) ((at.lines ++ piece) ++ (behind ++ later)) ((plain_by_now s at.modem (at.lines ++ piece)).said ++ more) es
    → AnswersFrom s (stage.Lines s.modem) (came ++ later) ((went ++ (plain_after p piece).said) ++ more) (with_more later more (with_more [] (plain_after p piece).said entries) ++ es)
leads_on s came went piece behind entries p at later more es answers =
    let came_is : (at.lines ++ piece) ++ (behind ++ later) ≡ at.lines ++ ((piece ++ behind) ++ later) =
    append_assoc at.lines piece (behind ++ later) ∙ ap (λ (l : List ℕ). at.lines ++ l) (sym (append_assoc piece behind later)) in
    let went_is : (plain_by_now s at.modem (at.lines ++ piece)).said ++ more ≡ (plain_by_now s at.modem at.lines).said ++ ((plain_after p piece).said ++ more) =
    ap (λ (q : Plain). q.said ++ more) (lines_on s came went entries (piece ++ behind) p piece at) ∙ append_assoc (plain_by_now s at.modem at.lines).said (plain_after p piece).said more in
    says s came went (plain_after p piece).said later more entries es
    (at.leads later ((plain_after p piece).said ++ more) es
    (subst (λ (l : List ℕ). AnswersFrom s (stage.Lines at.modem) l ((plain_by_now s at.modem at.lines).said ++ ((plain_after p piece).said ++ more)) es) came_is
    (subst (λ (l : List ℕ). AnswersFrom s (stage.Lines at.modem) ((at.lines ++ piece) ++ (behind ++ later)) l es) went_is answers)))

-- they stay at plain lines
stays_at : (s : Setting) (came went piece behind : List ℕ) (entries : List Entry) (p new : Plain) → new ≡ unsaid (plain_after p piece) → (plain_after p piece).entered ≡ None → AtLines s came went entries p (piece ++ behind)
    → AtLines s came (went ++ (plain_after p piece).said) (with_more [] (plain_after p piece).said entries) new behind
stays_at s came went piece behind entries p new is none at = record {
  modem = at.modem;
  lines = at.lines ++ piece;
  none = ap (λ (q : Plain). q.entered) (lines_on s came went entries (piece ++ behind) p piece at) ∙ none;
  plain_is = is ∙ ap unsaid (sym (lines_on s came went entries (piece ++ behind) p piece at));
  leads = leads_on s came went piece behind entries p at;
}

-- octets are taken, and no line enters the multiplexer
pub stays : (s : Setting) (p new : Plain) (piece behind before out : List ℕ) → new ≡ unsaid (plain_after p piece) → (plain_after p piece).entered ≡ None → out ≡ before ++ (plain_after p piece).said → StepsOn Stands undecided s (Lines p) (Lines new) None (piece ++ behind) behind before out
stays s p new piece behind before out is none written = record {
  more = (plain_after p piece).said;
  written = written;
  stands = λ came went es at. stays_at s came went piece behind es p new is none at;
}

-- a text of a frame behind no other octets
reads_first_text : (n1 : ℕ) (b : List ℕ) (f : Frame) → Spells n1 b f → Reads n1 (flag ∷ b ++ flag ∷ []) (f ∷ []) (flag ∷ [])
reads_first_text n1 b f spells = reads_written n1 b [] f [] (flag ∷ []) spells (cut_short (flag ∷ []) [] refl (cut_none n1))

-- or a line enters the multiplexer
entered_at : (s : Setting) (came went piece behind : List ℕ) (entries : List Entry) (p : Plain) (n1 : ℕ) (sim : SimState HeldState) → (plain_after p piece).entered ≡ Some n1 → (plain_after p piece).behind ≡ [] → FitsMux (mux_end n1 (plain_after p piece).modem s.steps) [] [] sim []
    → AtLines s came went entries p (piece ++ behind) → AtMux s came (went ++ (plain_after p piece).said) (with_entry (with_more [] (plain_after p piece).said entries) (Some n1) behind) (record { sim = sim; n1 = n1; kept = [] }) behind
entered_at s came went piece behind entries p n1 sim is none fits at =
    let same = lines_on s came went entries (piece ++ behind) p piece at in
    let modem_is : (plain_by_now s at.modem (at.lines ++ piece)).modem ≡ (plain_after p piece).modem = ap (λ (q : Plain). q.modem) same in
    let ends : EntersAfter s at.modem (at.lines ++ piece) n1 = record { entered = ap (λ (q : Plain). q.entered) same ∙ is; none_behind = ap (λ (q : Plain). q.behind) same ∙ none } in
    record {
      modem = (plain_after p piece).modem;
      past = [];
      handed = [];
      fits = fits;
      octets_are = λ i. omega arith;
      next = λ b f spells. reads_first_text n1 b f spells;
      kept = no_flag [] refl;
      leads = λ later more es answers.
          subst (λ (l : List Entry). AnswersFrom s (stage.Lines s.modem) (came ++ later) ((went ++ (plain_after p piece).said) ++ more) l) (sym (entry_more n1 behind later more (with_more [] (plain_after p piece).said entries) es))
          (leads_on s came went piece behind entries p at later more (record { n1 = n1; came = behind ++ later; went = more } ∷ es)
          (stage.enters at.modem (at.lines ++ piece) (behind ++ later) more n1 es ends
          (subst (λ (m : ModemState). AnswersFrom s (stage.Mux (mux_end n1 m s.steps) []) (behind ++ later) more es) (sym modem_is) answers)));
    }

-- octets are taken up to the end of a line that enters it
pub entered : (setup : Setup) (s : Setting) (p : Plain) (n1 : ℕ) (m : ModemState) (new : Mode) (piece behind before out : List ℕ) → s.steps ≡ setup.steps → (plain_after p piece).entered ≡ Some n1 → (plain_after p piece).behind ≡ [] → m ≡ (plain_after p piece).modem → out ≡ before ++ (plain_after p piece).said → IsEntered setup m n1 new
    → StepsOn Stands undecided s (Lines p) new (Some n1) (piece ++ behind) behind before out
entered setup s p n1 m _ piece behind before out steps is none same written (enters sim fits) = record {
  more = (plain_after p piece).said;
  written = written;
  stands = λ came went es at.
      entered_at s came went piece behind es p n1 sim is none
      (subst (λ (x : ModemState). FitsMux (mux_end n1 x s.steps) [] [] sim []) same (subst (λ (x : List Step). FitsMux (mux_end n1 m x) [] [] sim []) (sym steps) fits)) at;
}

-- ## In the multiplexer

-- what is answered behind octets that begin no frame
passed_on : (s : Setting) (e : End) (past : List Act) (x y z went : List ℕ) (es : List Entry) → PassesOver e.n1 x y → AnswersFrom s (stage.Mux e past) (y ++ z) went es → AnswersFrom s (stage.Mux e past) (x ++ z) went es
passed_on s e past x y z went es passes answers = by_kind (y ++ z) (passes.none z) (passes.first z) answers
  where
    by_kind : (came : List ℕ) {went : List ℕ} {fs : List Entry} → ((rest : List ℕ) → Reads e.n1 came [] rest → Reads e.n1 (x ++ z) [] rest) → ((behind : List ℕ) (f : Frame) → ReadsFirst e.n1 came f behind → ReadsFirst e.n1 (x ++ z) f behind) → AnswersFrom s (stage.Mux e past) came went fs → AnswersFrom s (stage.Mux e past) (x ++ z) went fs
    by_kind came none one (stage.no_frame _ _ _ rest reads) = stage.no_frame e past (x ++ z) rest (none rest reads)
    by_kind came none one (stage.goes_on _ _ _ behind more went f now fs reads handles still answers) = stage.goes_on e past (x ++ z) behind more went f now fs (one behind f reads) handles still answers
    by_kind came none one (stage.closes _ _ _ behind more went f now fs reads closes answers) = stage.closes e past (x ++ z) behind more went f now fs (one behind f reads) closes answers

-- what stands before the octets left is passed over
leads_past : (s : Setting) (came went octets left : List ℕ) (entries : List Entry) (mux : MuxState) → (at : AtMux s came went entries mux octets) → PassesOver mux.n1 (mux.kept ++ octets) left → (later more : List ℕ) (es : List Entry)
    → AnswersFrom s (stage.Mux (mux_end mux.n1 at.modem s.steps) at.past) (left ++ later) more es → AnswersFrom s (stage.Lines s.modem) (came ++ later) (went ++ more) (with_more later more entries ++ es)
leads_past s came went octets left entries mux at passes later more es answers =
    at.leads later more es
    (subst (λ (l : List ℕ). AnswersFrom s (stage.Mux (mux_end mux.n1 at.modem s.steps) at.past) l more es) (append_assoc mux.kept octets later)
    (passed_on s (mux_end mux.n1 at.modem s.steps) at.past (mux.kept ++ octets) left later more es passes answers))

-- no frame is whole yet
kept_at : (s : Setting) (came went octets kept : List ℕ) (entries : List Entry) (mux : MuxState) → PassesOver mux.n1 (mux.kept ++ octets) kept → Reads mux.n1 kept [] kept → AtMux s came went entries mux octets
    → AtMux s came (went ++ []) (with_more [] [] entries) (record mux { kept = kept }) []
kept_at s came went octets kept entries mux passes reads at = record {
  modem = at.modem;
  past = at.past;
  handed = at.handed;
  fits = at.fits;
  octets_are = at.octets_are;
  next = at.next;
  kept = reads;
  leads = λ later more es answers. says s came went [] later more entries es (leads_past s came went octets kept entries mux at passes later more es answers);
}

-- octets are taken in which no frame is whole, and those that can become one are kept
pub keeps : (s : Setting) (mux : MuxState) (octets kept out : List ℕ) → PassesOver mux.n1 (mux.kept ++ octets) kept → Reads mux.n1 kept [] kept → StepsOn Stands undecided s (Mux mux) (Mux (record mux { kept = kept })) None octets [] out out
keeps s mux octets kept out passes reads = record {
  more = [];
  written = sym (append-nil out);
  stands = λ came went es at. kept_at s came went octets kept es mux passes reads at;
}

-- ## A frame

-- the frame is read first, whatever follows
text_first : (n1 : ℕ) (text behind : List ℕ) → (is : IsFrameText n1 text) → ReadsFirst n1 (text ++ behind) is.frame behind
text_first n1 text behind is =
    let joins : text ++ behind ≡ flag ∷ (is.octets ++ flag ∷ behind) =
    ap (λ (l : List ℕ). l ++ behind) is.text_is ∙ ap (λ (l : List ℕ). flag ∷ l) (append_assoc is.octets (flag ∷ []) behind) in
    subst (λ (l : List ℕ). ReadsFirst n1 l is.frame behind) (sym joins) (first (flag ∷ (is.octets ++ flag ∷ behind)) is.octets behind is.frame refl is.spells)

-- the frame is read behind those before
text_next : (s : Setting) (came went octets text : List ℕ) (entries : List Entry) (mux : MuxState) → (at : AtMux s came went entries mux octets) → (is : IsFrameText mux.n1 text) → Reads mux.n1 (at.handed ++ text) (got at.past ++ is.frame ∷ []) (flag ∷ [])
text_next s came went octets text entries mux at is =
    subst (λ (l : List ℕ). Reads mux.n1 (at.handed ++ l) (got at.past ++ is.frame ∷ []) (flag ∷ [])) (sym is.text_is) (at.next is.octets is.frame is.spells)

-- and the next one behind it
next_on : (n1 : ℕ) (handed : List ℕ) (fs : List Frame) → Reads n1 handed fs (flag ∷ []) → (b : List ℕ) (f : Frame) → Spells n1 b f → Reads n1 (handed ++ (flag ∷ b ++ flag ∷ [])) (fs ++ f ∷ []) (flag ∷ [])
next_on n1 handed fs reads b f spells =
    reads_on n1 handed (flag ∷ b ++ flag ∷ []) fs (f ∷ []) (flag ∷ []) (flag ∷ []) reads
    (fill (flag ∷ flag ∷ b ++ flag ∷ []) (b ++ flag ∷ []) (f ∷ []) (flag ∷ []) refl (reads_first_text n1 b f spells))

-- what the modem at rest has handled
handles_by : (e : End) (handed text went more : List ℕ) (f : Frame) (past now : List Act) → Reads e.n1 (handed ++ text) (got past ++ f ∷ []) (flag ∷ []) → IsLater past now → Rests e (handed ++ text) (octets_sent past ++ more) now → Handles e past f more now
handles_by e handed text went more f past now reads later rests = record {
  later = later;
  lawful = rests.lawful;
  complete = rests.complete;
  came = (one_reading e.n1 (handed ++ text) (got now) (got past ++ f ∷ []) rests.through.rest (flag ∷ []) rests.through.reads reads).0;
  went = sym rests.through.written;
  all_out = rests.all_out;
  steps = rests.steps;
}

-- and what the modem has come to that has closed down
down_by : (e : End) (handed text more : List ℕ) (f : Frame) (past now : List Act) → AreOctets (handed ++ text) → Reads e.n1 (handed ++ text) (got past ++ f ∷ []) (flag ∷ []) → IsLater past now → IsDown e (handed ++ text) (octets_sent past ++ more) now → ClosesDown e past f more now
down_by e handed text more f past now octets reads later down =
    let goes : GoesOn (got now ++ down.octets.coming) (got past ++ f ∷ []) =
    reads_beginning e.n1 down.taken down.unread (got now ++ down.octets.coming) (got past ++ f ∷ []) down.octets.rest (flag ∷ [])
    (subst AreOctets down.came_is octets) down.octets.reads (subst (λ (l : List ℕ). Reads e.n1 l (got past ++ f ∷ []) (flag ∷ [])) down.came_is reads) in
    record {
      later = later;
      lawful = down.lawful;
      complete = down.complete;
      unread = down.octets.coming ++ goes.later;
      came = sym (append_assoc (got now) down.octets.coming goes.later) ∙ sym goes.frames;
      went = sym down.over.written;
      closed = down.over.closed;
    }

closes_by : (e : End) (handed text more : List ℕ) (f : Frame) (past now : List Act) → AreOctets (handed ++ text) → Reads e.n1 (handed ++ text) (got past ++ f ∷ []) (flag ∷ []) → IsLater past now → IsEndedBy e past (handed ++ text) (octets_sent past ++ more) now → Closes e past f more now
closes_by e handed text more f past now octets reads later (muxes.at_rest rests closed) = closes_0 (handles_by e handed text [] more f past now reads later rests) closed
closes_by e handed text more f past now octets reads later (muxes.is_down down) = closes_down (down_by e handed text more f past now octets reads later down)

-- the multiplexer goes on behind a frame
frame_at : (s : Setting) (came went octets text behind before out : List ℕ) (entries : List Entry) (mux : MuxState) (new : SimState HeldState) → PassesOver mux.n1 (mux.kept ++ octets) (text ++ behind) → (is : IsFrameText mux.n1 text) → (fed : IsFed mux.sim new text before out false) → AtMux s came went entries mux octets
    → AtMux s came (went ++ fed.more) (with_more [] fed.more entries) (record { sim = new; n1 = mux.n1; kept = flag ∷ [] }) behind
frame_at s came went octets text behind before out entries mux new passes is fed at =
    let e = mux_end mux.n1 at.modem s.steps in
    let to = fed.fed e at.handed (octets_sent at.past) at.past at.fits in
    let on = to.goes_on refl in
    let reads = text_next s came went octets text entries mux at is in
    let handles : Handles e at.past is.frame fed.more to.now = handles_by e at.handed text [] fed.more is.frame at.past to.now reads to.later on.rests in
    record {
      modem = at.modem;
      past = to.now;
      handed = at.handed ++ text;
      fits = subst (λ (l : List ℕ). FitsMux e (at.handed ++ text) l new to.now) (sym handles.went) on.fits;
      octets_are = octets_both at.handed text at.octets_are is.octets_are;
      next = next_on mux.n1 (at.handed ++ text) (got to.now) (subst (λ (fs : List Frame). Reads mux.n1 (at.handed ++ text) fs (flag ∷ [])) (sym handles.came) reads);
      kept = cut_short (flag ∷ []) [] refl (cut_none mux.n1);
      leads = λ later more es answers.
          says s came went fed.more later more entries es
          (leads_past s came went octets (text ++ behind) entries mux at passes later (fed.more ++ more) es
          (subst (λ (l : List ℕ). AnswersFrom s (stage.Mux e at.past) l (fed.more ++ more) es) (sym (append_assoc text behind later))
          (stage.goes_on e at.past (text ++ (behind ++ later)) (behind ++ later) fed.more more is.frame to.now es (text_first mux.n1 text (behind ++ later) is) handles on.open_still answers)));
    }

-- plain lines follow a frame that ends the multiplexer
end_at : (s : Setting) (came went octets text behind before out : List ℕ) (entries : List Entry) (mux : MuxState) (new : SimState HeldState) → PassesOver mux.n1 (mux.kept ++ octets) (text ++ behind) → (is : IsFrameText mux.n1 text) → (fed : IsFed mux.sim new text before out true) → AtMux s came went entries mux octets
    → AtLines s came (went ++ fed.more) (with_more [] fed.more entries) (plain_begun s.n1 (modem_of new)) behind
end_at s came went octets text behind before out entries mux new passes is fed at =
    let e = mux_end mux.n1 at.modem s.steps in
    let to = fed.fed e at.handed (octets_sent at.past) at.past at.fits in
    let over = to.is_over refl in
    let reads = text_next s came went octets text entries mux at is in
    let closes : Closes e at.past is.frame fed.more to.now = closes_by e at.handed text fed.more is.frame at.past to.now (octets_both at.handed text at.octets_are is.octets_are) reads to.later over.ended in
    let none : plain_by_now s (modem_after e to.now) [] ≡ plain_begun s.n1 (modem_after e to.now) = after_none (plain_begun s.n1 (modem_after e to.now)) in
    record {
      modem = modem_after e to.now;
      lines = [];
      none = ap (λ (q : Plain). q.entered) none;
      plain_is = ap (plain_begun s.n1) over.modem_is ∙ ap unsaid (sym none);
      leads = λ later more es answers.
          says s came went fed.more later more entries es
          (leads_past s came went octets (text ++ behind) entries mux at passes later (fed.more ++ more) es
          (subst (λ (l : List ℕ). AnswersFrom s (stage.Mux e at.past) l (fed.more ++ more) es) (sym (append_assoc text behind later))
          (stage.closes e at.past (text ++ (behind ++ later)) (behind ++ later) fed.more more is.frame to.now es (text_first mux.n1 text (behind ++ later) is) closes
          (subst (λ (l : List ℕ). AnswersFrom s (stage.Lines (modem_after e to.now)) (behind ++ later) l es) (ap (λ (q : Plain). q.said ++ more) none) answers))));
    }

-- a whole frame is handled: the multiplexer goes on behind it, or plain lines do
pub handles_text : (setup : Setup) (s : Setting) (mux : MuxState) (new : Mode) (octets text behind before out : List ℕ) → s.n1 ≡ setup.n1.octets → PassesOver mux.n1 (mux.kept ++ octets) (text ++ behind) → IsFrameText mux.n1 text → HandlesText setup mux.sim mux.n1 text new before out → StepsOn Stands undecided s (Mux mux) new None octets behind before out
handles_text setup s mux _ octets text behind _ _ n1 passes is (in_mux new before out fed) = record {
  more = fed.more;
  written = fed.written;
  stands = λ came went es at. frame_at s came went octets text behind before out es mux new passes is fed at;
}
handles_text setup s mux _ octets text behind _ _ n1 passes is (at_lines new before out fed) = record {
  more = fed.more;
  written = fed.written;
  stands = λ came went es at.
      subst (λ (n : ℕ). AtLines s came (went ++ fed.more) (with_more [] fed.more es) (plain_begun n (modem_of new)) behind) n1 (end_at s came went octets text behind before out es mux new passes is fed at);
}

-- ## All of them

-- no octets are taken
pub takes_none : (s : Setting) (mode : Mode) (octets out : List ℕ) → StepsOn Stands undecided s mode mode None octets octets out out
takes_none s mode octets out = record {
  more = [];
  written = sym (append-nil out);
  stands = λ came went es at.
      subst (λ (l : List ℕ). Stands s came l (with_more [] [] es) mode octets) (sym (append-nil went))
      (subst (λ (l : List Entry). Stands s came went l mode octets) (sym (none_more es)) at);
}

entry_said : (entered : Option ℕ) (x y left : List ℕ) (es : List Entry) → with_entry (with_more [] y (with_more [] x es)) entered left ≡ with_entry (with_more [] (x ++ y) es) entered left
entry_said entered x y left es = ap (λ (l : List Entry). with_entry l entered left) (more_twice [] x [] y es)

-- some are taken, in which no line enters, and then others
pub takes_more : (s : Setting) (a b c : Mode) (entered : Option ℕ) (octets left rest x y z : List ℕ) → StepsOn Stands undecided s a b None octets left x y → StepsOn Stands undecided s b c entered left rest y z → StepsOn Stands undecided s a c entered octets rest x z
takes_more s a b c entered octets left rest x y z p q = record {
  more = p.more ++ q.more;
  written = q.written ∙ ap (λ l. l ++ q.more) p.written ∙ append_assoc x p.more q.more;
  stands = λ came went es at.
      subst (λ (l : List ℕ). Stands s came l (with_entry (with_more [] (p.more ++ q.more) es) entered (undecided c ++ rest)) c rest) (append_assoc went p.more q.more)
      (subst (λ (l : List Entry). Stands s came ((went ++ p.more) ++ q.more) l c rest) (entry_said entered p.more q.more (undecided c ++ rest) es)
      (q.stands came (went ++ p.more) (with_more [] p.more es) (p.stands came went es at)));
}

-- a number that isn't 0 is more
pub not_zero : (n : ℕ) → (n == 0) ≡ false → 0 < n
not_zero zero is = absurd (false≢true (sym is))
not_zero (suc n) is = omega arith

-- what maps to none is none
pub mapped_none : {A B : Type 0} (f : A → B) (o : Option A) → option_map f o ≡ None → o ≡ None
mapped_none f None none = refl
mapped_none f (Some x) none = cc

-- what isn't some maps to none
pub none_mapped : {A B : Type 0} (f : A → B) (o : Option A) → is_some o ≡ false → option_map f o ≡ None
none_mapped f None none = refl
none_mapped f (Some x) none = absurd (false≢true (sym none))

-- ## Each step leaves less

entered_by : (setup : Setup) (m : ModemState) (n1 : ℕ) (mode : Mode) → IsEntered setup m n1 mode → held mode ≡ 0
entered_by setup m n1 _ (enters sim fits) = refl

min_one : (n : ℕ) → min n 1 ≤ 1
min_one n = omega arith

-- by one octet at least, or the multiplexer begins
pub falls : (old new : Mode) (octets left : ℕ) → held new + left < held old + octets → weight new left < weight old octets
falls old new octets left less = let one = min_one left in omega (arith, less, one)

some_taken : (before : Option ℕ) (n : ℕ) (octets : List ℕ) → (before ≡ None → 0 < length octets → 0 < n) → 0 < length octets → 0 < once_entered before + n
some_taken None n octets some h = let one = some refl h in omega (arith, one)
some_taken (Some n1) n octets some h = omega (arith)

-- and it leaves less where the multiplexer begins
pub moves_on : (setup : Setup) (m : ModemState) (n1 : ℕ) (old mode : Mode) (before : Option ℕ) (n : ℕ) (octets left : List ℕ) → held old ≡ once_entered before → IsEntered setup m n1 mode → n ≤ length octets → left ≡ drop n octets
    → (before ≡ None → 0 < length octets → 0 < n) → 0 < length octets → weight mode (length left) < weight old (length octets)
moves_on setup m n1 old mode before n octets left held_is is bound left_is some h =
    let zero_held = entered_by setup m n1 mode is in
    let taken = some_taken before n octets some h in
    let rest : length left ≡ length (drop n octets) = ap length left_is in
    let so_long = length-drop n octets in
    falls old mode (length octets) (length left) (omega (arith, zero_held, held_is, taken, rest, so_long, bound))

-- ## By what was handed in

-- it goes on: a flag is kept behind the frame
pub in_mux_by : (setup : Setup) (sim new seen : SimState HeldState) (n1 : ℕ) (text kept before out : List ℕ) (over : Bool) → over ≡ false → seen ≡ new → kept ≡ flag ∷ [] → IsFed sim new text before out over
    → HandlesText setup sim n1 text (Mux (record { sim = seen; n1 = n1; kept = kept })) before out
in_mux_by setup sim new seen n1 text kept before out over is same kept_is fed =
    subst (λ (s : SimState HeldState). HandlesText setup sim n1 text (Mux (record { sim = s; n1 = n1; kept = kept })) before out) (sym same)
    (subst (λ (l : List ℕ). HandlesText setup sim n1 text (Mux (record { sim = new; n1 = n1; kept = l })) before out) (sym kept_is)
    (in_mux new before out (subst (λ (b : Bool). IsFed sim new text before out b) is fed)))

-- it is over: plain lines begin, with the modem as it is
pub at_lines_by : (setup : Setup) (sim new : SimState HeldState) (n1 : ℕ) (text before out : List ℕ) (p : Plain) (over : Bool) → over ≡ true → p ≡ plain_begun setup.n1.octets (modem_of new) → IsFed sim new text before out over
    → HandlesText setup sim n1 text (Lines p) before out
at_lines_by setup sim new n1 text before out p over is same fed =
    subst (λ (q : Plain). HandlesText setup sim n1 text (Lines q) before out) (sym same)
    (at_lines new before out (subst (λ (b : Bool). IsFed sim new text before out b) is fed))

-- it begins, with no octets kept
pub entered_mux : (setup : Setup) (m : ModemState) (n1 : ℕ) (sim : SimState HeldState) (steps : List Step) (kept : List ℕ) → steps ≡ setup.steps → kept ≡ [] → FitsMux (mux_end n1 m steps) [] [] sim []
    → IsEntered setup m n1 (Mux (record { sim = sim; n1 = n1; kept = kept }))
entered_mux setup m n1 sim steps kept same none fits =
    subst (λ (l : List ℕ). IsEntered setup m n1 (Mux (record { sim = sim; n1 = n1; kept = l }))) (sym none)
    (enters sim (subst (λ (x : List Step). FitsMux (mux_end n1 m x) [] [] sim []) same fits))

-- octets behind those that are kept
pub front_kept : (n : ℕ) (kept octets text : List ℕ) → n ≡ length kept → text ≡ kept ++ octets → take n text ≡ kept
front_kept n kept octets text count is =
    ap (take n) is ∙ ap (λ k. take k (kept ++ octets)) count ∙ take-append-le (length kept) kept octets (omega arith) ∙ take_all (length kept) kept (omega arith)

-- the octets in front of those behind
pub front_taken : (all held behind : List ℕ) (a b h : ℕ) → EndsWith all (held ++ behind) → a ≡ length all → b ≡ length behind → h ≡ length held → all ≡ take (a - b - h) all ++ (held ++ behind)
front_taken all held behind a b h ends all_is behind_is held_is =
    let whole : length all ≡ length ends.front + length (held ++ behind) = ap length ends.is ∙ length-append ends.front (held ++ behind) in
    let both = length-append held behind in
    let count : a - b - h ≡ length ends.front = omega (arith, all_is, behind_is, held_is, whole, both) in
    ends.is ∙ ap (λ (l : List ℕ). l ++ (held ++ behind)) (sym (front_kept (a - b - h) ends.front (held ++ behind) all count ends.is))

-- where no octets are kept, they are no frame
pub none_kept : (n1 : ℕ) (kept : List ℕ) → kept ≡ [] → Reads n1 kept [] kept
none_kept n1 kept none = subst (λ (l : List ℕ). Reads n1 l [] l) (sym none) (no_flag [] refl)

-- nor is a flag alone
pub flag_kept : (n1 : ℕ) (kept : List ℕ) → kept ≡ flag ∷ [] → Reads n1 kept [] kept
flag_kept n1 kept one = subst (λ (l : List ℕ). Reads n1 l [] l) (sym one) (cut_short (flag ∷ []) [] refl (cut_none n1))

-- no frame is whole in what was kept and what came: what can become one is kept
pub keeps_by : (s : Setting) (mux : MuxState) (sim : SimState HeldState) (n1 : ℕ) (kept octets text rest new_kept left out : List ℕ) → mux ≡ record { sim = sim; n1 = n1; kept = kept } → text ≡ kept ++ octets → new_kept ≡ rest → left ≡ []
    → PassesOver n1 text rest × Reads n1 rest [] rest → StepsOn Stands undecided s (Mux mux) (Mux (record { sim = sim; n1 = n1; kept = new_kept })) None octets left out out
keeps_by s mux sim n1 kept octets text rest new_kept left out is text_is kept_is none found =
    subst (λ (x : MuxState). StepsOn Stands undecided s (Mux x) (Mux (record { sim = sim; n1 = n1; kept = new_kept })) None octets left out out) (sym is)
    (subst (λ (l : List ℕ). StepsOn Stands undecided s (Mux (record { sim = sim; n1 = n1; kept = kept })) (Mux (record { sim = sim; n1 = n1; kept = l })) None octets left out out) (sym kept_is)
    (subst (λ (l : List ℕ). StepsOn Stands undecided s (Mux (record { sim = sim; n1 = n1; kept = kept })) (Mux (record { sim = sim; n1 = n1; kept = rest })) None octets l out out) (sym none)
    (keeps s (record { sim = sim; n1 = n1; kept = kept }) octets rest out (subst (λ (l : List ℕ). PassesOver n1 l rest) text_is found.0) found.1)))

-- and less is left and kept
pub keeps_less : (n1 : ℕ) (mux : MuxState) (sim : SimState HeldState) (kept octets text rest new_kept left : List ℕ) → mux ≡ record { sim = sim; n1 = n1; kept = kept } → text ≡ kept ++ octets → new_kept ≡ rest → left ≡ []
    → PassesOver n1 text rest × Reads n1 rest [] rest → 0 < length octets → weight (Mux (record { sim = sim; n1 = n1; kept = new_kept })) (length left) < weight (Mux mux) (length octets)
keeps_less n1 mux sim kept octets text rest new_kept left is text_is kept_is none found some =
    let most = found.0.no_longer in
    let text_size : length text ≡ length kept + length octets = ap length text_is ∙ length-append kept octets in
    let new_size : length new_kept ≡ length rest = ap length kept_is in
    let left_size : length left ≡ 0 = ap length none in
    let mux_size : length mux.kept ≡ length kept = ap (λ (x : MuxState). length x.kept) is in
    omega (arith, most, text_size, new_size, left_size, mux_size, some)

-- ## A frame, by what was handed in

held_least : (setup : Setup) (sim : SimState HeldState) (n1 : ℕ) (text before out : List ℕ) (mode : Mode) → HandlesText setup sim n1 text mode before out → held mode ≤ 1
held_least setup sim n1 text _ _ _ (in_mux new before out fed) = omega arith
held_least setup sim n1 text _ _ _ (at_lines new before out fed) = omega arith

text_size : (n1 : ℕ) (text : List ℕ) → IsFrameText n1 text → 2 ≤ length text
text_size n1 text is =
    let whole : length text ≡ length (flag ∷ is.octets ++ flag ∷ []) = ap length is.text_is in
    let part = length-append is.octets (flag ∷ []) in
    omega (arith, whole, part)

-- behind a whole frame less is left and kept
pub frame_less : (setup : Setup) (mux : MuxState) (sim : SimState HeldState) (n1 : ℕ) (kept octets all text behind left before out : List ℕ) (new : Mode) → mux ≡ record { sim = sim; n1 = n1; kept = kept } → all ≡ kept ++ octets → left ≡ behind
    → PassesOver n1 all (text ++ behind) × IsFrameText n1 text → HandlesText setup sim n1 text new before out → weight new (length left) < weight (Mux mux) (length octets)
frame_less setup mux sim n1 kept octets all text behind left before out new is all_is left_is found handles =
    let one = held_least setup sim n1 text before out new handles in
    let two = text_size n1 text found.1 in
    let most = found.0.no_longer in
    let both = length-append text behind in
    let all_size : length all ≡ length kept + length octets = ap length all_is ∙ length-append kept octets in
    let left_size : length left ≡ length behind = ap length left_is in
    let mux_size : length mux.kept ≡ length kept = ap (λ (x : MuxState). length x.kept) is in
    falls (Mux mux) new (length octets) (length left) (omega (arith, one, two, most, both, all_size, left_size, mux_size))

-- a whole frame in what was kept and what came is handled
pub frame_by : (setup : Setup) (s : Setting) (mux : MuxState) (sim : SimState HeldState) (n1 : ℕ) (kept octets all text behind left before out : List ℕ) (new : Mode) → s.n1 ≡ setup.n1.octets → mux ≡ record { sim = sim; n1 = n1; kept = kept } → all ≡ kept ++ octets → left ≡ behind
    → PassesOver n1 all (text ++ behind) × IsFrameText n1 text → HandlesText setup sim n1 text new before out → StepsOn Stands undecided s (Mux mux) new None octets left before out
frame_by setup s mux sim n1 kept octets all text behind left before out new same is all_is left_is found handles =
    subst (λ (x : MuxState). StepsOn Stands undecided s (Mux x) new None octets left before out) (sym is)
    (subst (λ (l : List ℕ). StepsOn Stands undecided s (Mux (record { sim = sim; n1 = n1; kept = kept })) new None octets l before out) (sym left_is)
    (handles_text setup s (record { sim = sim; n1 = n1; kept = kept }) new octets text behind before out same
    (subst (λ (l : List ℕ). PassesOver n1 l (text ++ behind)) all_is found.0) found.1 handles))

-- the octets behind so many
pub split_steps : (s : Setting) (old new : Mode) (entered : Option ℕ) (octets behind before out : List ℕ) (n : ℕ) → behind ≡ drop n octets → StepsOn Stands undecided s old new entered (take n octets ++ behind) behind before out → StepsOn Stands undecided s old new entered octets behind before out
split_steps s old new entered octets behind before out n is steps =
    subst (λ (l : List ℕ). StepsOn Stands undecided s old new entered l behind before out) (ap (λ (l : List ℕ). take n octets ++ l) is ∙ take-append-drop n octets) steps

-- ## By what plain lines took

-- they go on
pub stays_by : (s : Setting) (p new : Plain) (octets behind before out : List ℕ) → Hears p new octets behind before out → new.entered ≡ None → StepsOn Stands undecided s (Lines p) (Lines new) None octets behind before out
stays_by s p new octets behind before out h none =
    split_steps s (Lines p) (Lines new) None octets behind before out h.count h.behind_is
    (stays s p new (take h.count octets) behind before out h.new_is (ap (λ (q : Plain). q.entered) (sym h.new_is) ∙ none) h.written)

-- a line enters the multiplexer
pub enters_by : (setup : Setup) (s : Setting) (p new : Plain) (n1 : ℕ) (m : ModemState) (mux : Mode) (octets behind left before out : List ℕ) → s.steps ≡ setup.steps → Hears p new octets behind before out
    → new.entered ≡ Some n1 → new.behind ≡ [] → m ≡ new.modem → IsEntered setup m n1 mux → left ≡ behind → StepsOn Stands undecided s (Lines p) mux (Some n1) octets left before out
enters_by setup s p new n1 m mux octets behind left before out steps h enters_it none_behind modem is same =
    subst (λ (l : List ℕ). StepsOn Stands undecided s (Lines p) mux (Some n1) octets l before out) (sym same)
    (split_steps s (Lines p) mux (Some n1) octets behind before out h.count h.behind_is
    (entered setup s p n1 m mux (take h.count octets) behind before out steps (ap (λ (q : Plain). q.entered) (sym h.new_is) ∙ enters_it) (ap (λ (q : Plain). q.behind) (sym h.new_is) ∙ none_behind)
    (modem ∙ ap (λ (q : Plain). q.modem) h.new_is) h.written is))
