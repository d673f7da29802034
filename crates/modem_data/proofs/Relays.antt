-- Each call of a relay leads on.
use Rattle.std.specs.Prelude.{◌≡◌, ℕ, ◌+◌, ◌==◌, Bool, true, false, List, [], ◌∷◌, ◌++◌, take, drop, length, Option, Some, None, Result, Ok, Err, IfOk, OnOk, refl}
use Rattle.std.proofs.Common.{ap, sym, ◌∙◌, subst, take-add}
use Rattle.std.proofs.lemmas.List.{append_assoc, append-nil, take-append-drop, nil_from_length}
use Rattle.std.proofs.lemmas.Bool.{eqb-true}
use Rattle.std.proofs.lemmas.Grind.{flat_map-append}
use Rattle.mux_frame.specs.Frames.{Frame}
use Rattle.mux_station.specs.declared.role.Role.{Role}
use Rattle.mux_frame.specs.Spelling.{spelled}
use Rattle.mux_frame.specs.Reading.{Reads}
use Rattle.mux_frame.specs.Deframing.{Deframes, TakesIn, IsDeframed}
use Rattle.modem_data.specs.declared.begin.Begin.{Begin}
use Rattle.modem_data.specs.declared.begin.Until.{Until}
use Rattle.modem_data.specs.declared.switch.LineCut.{LineCut}
use Rattle.modem_data.specs.Prompts.{mark_if}
use Rattle.modem_data.specs.Switching.{Carries, IsCut}
use Rattle.modem_data.specs.Passing.{Came, Went, Flowed, Left, Lost, Began, EndedLane, Gave, Read, IsDue, carries}
use Rattle.modem_data.specs.PipeSets.{AllHand, AllLead, BeginsAll, HasPipe, LeavesInTurn, NoneLeaves, OfEachPast, PipesFit}
use Rattle.modem_data.specs.declared.pipe.Reading.{Reading}
use Rattle.modem_data.specs.Handing.{PassesIn, PassesOut, PassesOver, handed}
use Rattle.modem_data.specs.Hops.{Relay, RelayFits, Hop, Fed, Handed, Took, Wrote, Passed, Hops, HopsBy, BeginsAs, LawfulHops, DriverFirst, AllCame, HoldsNothing, LineIn, PassesOn, DriverOut, still_there, driver_out, OneOut, flow_out, still_out, went_out, left_out, spell, due, line_frames, with_lines, for_driver, for_line, fed, taken, wrote, handed_over, came, went, passes}

-- ## Octets

-- octets come from the line
pub hops_fed : (v w : Relay) (octets : List ℕ) → TakesIn v.outer octets w.outer → w.outer.n1 ≡ v.outer.n1 → w ≡ record v { outer = w.outer } → Hops v w (Fed octets)
unfolding Hops LawfulHops
hops_fed v w octets takes n e role n1 ds past h = rw e (record {
  outer_n1 = n ∙ h.outer_n1;
  inner_n1 = h.inner_n1;
  lawful = (tt, h.lawful);
  line_in = subst (λ fs. Deframes (fed past ++ octets) fs w.outer) (sym (append-nil (came past))) (takes (fed past) (came past) h.line_in);
  driver_out = subst (λ fs. Deframes (taken past) fs v.inner) (sym (append-nil (went past))) h.driver_out;
  to_driver_is = h.to_driver_is;
  to_line_is = subst (λ fs. wrote past ++ v.to_line ≡ spell fs) (sym (append-nil (for_line past))) h.to_line_is;
  pipes_fit = h.pipes_fit;
})

-- octets come from the driver
pub hops_took : (v w : Relay) (octets : List ℕ) → TakesIn v.inner octets w.inner → w.inner.n1 ≡ v.inner.n1 → w ≡ record v { inner = w.inner } → Hops v w (Took octets)
unfolding Hops LawfulHops
hops_took v w octets takes n e role n1 ds past h = rw e (record {
  outer_n1 = h.outer_n1;
  inner_n1 = n ∙ h.inner_n1;
  lawful = (tt, h.lawful);
  line_in = subst (λ fs. Deframes (fed past) fs v.outer) (sym (append-nil (came past))) h.line_in;
  driver_out = subst (λ fs. Deframes (taken past ++ octets) fs w.inner) (sym (append-nil (went past))) (takes (taken past) (went past) h.driver_out);
  to_driver_is = h.to_driver_is;
  to_line_is = subst (λ fs. wrote past ++ v.to_line ≡ spell fs) (sym (append-nil (for_line past))) h.to_line_is;
  pipes_fit = h.pipes_fit;
})

-- what is given, and then what waits, is what it was
given_on : (before waits : List ℕ) (n : ℕ) → (before ++ take n waits) ++ drop n waits ≡ before ++ waits
given_on before waits n = append_assoc before (take n waits) (drop n waits) ∙ ap (λ t. before ++ t) (take-append-drop n waits)

-- the driver is given the first of those that wait for it
pub hops_handed : (v w : Relay) (octets : List ℕ) (n : ℕ) → octets ≡ take n v.to_driver → w.to_driver ≡ drop n v.to_driver → w ≡ record v { to_driver = w.to_driver } → Hops v w (Handed octets)
unfolding Hops LawfulHops
hops_handed v w octets n o t e role n1 ds past h = rw e (record {
  outer_n1 = h.outer_n1;
  inner_n1 = h.inner_n1;
  lawful = (tt, h.lawful);
  line_in = subst (λ fs. Deframes (fed past) fs v.outer) (sym (append-nil (came past))) h.line_in;
  driver_out = subst (λ fs. Deframes (taken past) fs v.inner) (sym (append-nil (went past))) h.driver_out;
  to_driver_is = ap (λ x. (handed_over past ++ x) ++ w.to_driver) o ∙ (ap (λ x. (handed_over past ++ take n v.to_driver) ++ x) t ∙ (given_on (handed_over past) v.to_driver n ∙ h.to_driver_is));
  to_line_is = subst (λ fs. wrote past ++ v.to_line ≡ spell fs) (sym (append-nil (for_line past))) h.to_line_is;
  pipes_fit = h.pipes_fit;
})

-- the line is given the first of those that wait for it
pub hops_wrote : (v w : Relay) (octets : List ℕ) (n : ℕ) → octets ≡ take n v.to_line → w.to_line ≡ drop n v.to_line → w ≡ record v { to_line = w.to_line } → Hops v w (Wrote octets)
unfolding Hops LawfulHops
hops_wrote v w octets n o t e role n1 ds past h = rw e (record {
  outer_n1 = h.outer_n1;
  inner_n1 = h.inner_n1;
  lawful = (tt, h.lawful);
  line_in = subst (λ fs. Deframes (fed past) fs v.outer) (sym (append-nil (came past))) h.line_in;
  driver_out = subst (λ fs. Deframes (taken past) fs v.inner) (sym (append-nil (went past))) h.driver_out;
  to_driver_is = h.to_driver_is;
  to_line_is = subst (λ fs. (wrote past ++ octets) ++ w.to_line ≡ spell fs) (sym (append-nil (for_line past))) (ap (λ x. (wrote past ++ x) ++ w.to_line) o ∙ (ap (λ x. (wrote past ++ take n v.to_line) ++ x) t ∙ (given_on (wrote past) v.to_line n ∙ h.to_line_is)));
  pipes_fit = h.pipes_fit;
})

-- ## Frames

-- the frames of a cut are those of the lines
frames_are : (f : Frame) (cut : LineCut) (m : Carries) → IsCut cut m f.info → with_lines f (mark_if cut.is_marked) ++ (with_lines f (take cut.before f.info) ++ with_lines f (drop cut.behind f.info)) ≡ line_frames m f
frames_are f cut m is = rw (is.mark, is.before, is.behind) refl

-- what was written for the driver is what it was due
handed_due : (role : Role) (n1 : ℕ) (ds : List ℕ) (v : Relay) (past : List Hop) (f : Frame) (cut : Option LineCut) → RelayFits role n1 ds v past → AllHand v.pipes f cut → handed f cut ≡ spell (due role (passes past) f)
unfolding AllHand
handed_due role n1 ds v past f None h on = rw (on role n1 ds (passes past) h.pipes_fit) (sym (append-nil (spelled f)))
handed_due role n1 ds v past f (Some cut) h on =
    let hand = on role n1 ds (passes past) h.pipes_fit in
    rw hand.0 (ap spell (frames_are f cut (carries role f.dlci (passes past)) hand.1))

put_behind : (before waits more : List ℕ) (fs gs : List Frame) → before ++ waits ≡ spell fs → more ≡ spell gs → before ++ (waits ++ more) ≡ spell (fs ++ gs)
put_behind before waits more fs gs h e = sym (append_assoc before waits more) ∙ (ap (λ x. x ++ more) h ∙ (ap (λ x. spell fs ++ x) e ∙ sym (flat_map-append spelled fs gs)))

-- the line's frame at hand comes, and what of it is the driver's waits for it
pub hops_came : (v w : Relay) → PassesIn v.outer.next v.pipes w.pipes v.to_driver w.to_driver → PassesOver v.outer w.outer → w.outer.n1 ≡ v.outer.n1 → w.inner ≡ v.inner → w.to_line ≡ v.to_line → HopsBy v w (λ f. Passed (Came f))
unfolding Hops LawfulHops PassesOver AllLead
hops_came v w p over n i l = record {
  frame = p.frame;
  leads = λ role n1 ds past h. record {
    outer_n1 = n ∙ h.outer_n1;
    inner_n1 = ap (λ x. x.n1) i ∙ h.inner_n1;
    lawful = (tt, h.lawful);
    line_in = over (fed past) (came past) p.frame p.is_at_hand h.line_in;
    driver_out = rw i (subst (λ fs. Deframes (taken past) fs v.inner) (sym (append-nil (went past))) h.driver_out);
    to_driver_is = ap (λ x. handed_over past ++ x) p.written ∙ put_behind (handed_over past) v.to_driver (handed p.frame p.cut) (for_driver role past) (due role (passes past) p.frame) h.to_driver_is (handed_due role n1 ds v past p.frame p.cut h p.hands);
    to_line_is = rw l (subst (λ fs. wrote past ++ v.to_line ≡ spell fs) (sym (append-nil (for_line past))) h.to_line_is);
    pipes_fit = p.leads role n1 ds (passes past) h.pipes_fit;
  };
}

-- the driver's frame at hand goes to the line
pub hops_went : (v w : Relay) → PassesOut v.inner.next v.pipes w.pipes v.to_line w.to_line → PassesOver v.inner w.inner → w.inner.n1 ≡ v.inner.n1 → w.outer ≡ v.outer → w.to_driver ≡ v.to_driver → HopsBy v w (λ f. Passed (Went f))
unfolding Hops LawfulHops PassesOver AllLead
hops_went v w p over n i l = record {
  frame = p.frame;
  leads = λ role n1 ds past h. record {
    outer_n1 = ap (λ x. x.n1) i ∙ h.outer_n1;
    inner_n1 = n ∙ h.inner_n1;
    lawful = (tt, h.lawful);
    line_in = rw i (subst (λ fs. Deframes (fed past) fs v.outer) (sym (append-nil (came past))) h.line_in);
    driver_out = over (taken past) (went past) p.frame p.is_at_hand h.driver_out;
    to_driver_is = rw l h.to_driver_is;
    to_line_is = ap (λ x. wrote past ++ x) p.written ∙ put_behind (wrote past) v.to_line (spelled p.frame) (for_line past) (p.frame ∷ []) h.to_line_is (sym (append-nil (spelled p.frame)));
    pipes_fit = p.leads role n1 ds (passes past) h.pipes_fit;
  };
}

-- ## What forces progress

-- where the line has no frame at hand, all of its frames have come
pub all_came : (v : Relay) → IsDeframed → v.outer.next ≡ None → AllCame v
unfolding AllCame
all_came v law none role n1 ds past h = subst (λ n. Reads n (fed past) (came past) v.outer.undecided) h.outer_n1 ((law (fed past) (came past) v.outer h.line_in).all none)

-- every frame of the driver's has gone
all_went : (role : Role) (n1 : ℕ) (ds : List ℕ) (v : Relay) (past : List Hop) → IsDeframed → v.inner.next ≡ None → RelayFits role n1 ds v past → DriverFirst n1 past
all_went role n1 ds v past law none h = record {
  rest = v.inner.undecided;
  all_went = subst (λ n. Reads n (taken past) (went past) v.inner.undecided) h.inner_n1 ((law (taken past) (went past) v.inner h.driver_out).all none);
}

-- ## Data

-- a frame of data leaves in its turn, where the driver has none at hand
pub hops_left : (v w : Relay) (f : Frame) → IsDeframed → v.inner.next ≡ None → LeavesInTurn v.outer.n1 v.pipes w.pipes f → w.to_line ≡ v.to_line ++ spelled f → w ≡ record v { pipes = w.pipes; to_line = w.to_line } → Hops v w (Passed (Left f))
unfolding Hops LawfulHops LeavesInTurn
hops_left v w f law none leads out e role n1 ds past h =
    let both = leads role ds (passes past) (subst (λ n. PipesFit role n ds v.pipes (passes past)) (sym h.outer_n1) h.pipes_fit) in
    rw e (record {
      outer_n1 = h.outer_n1;
      inner_n1 = h.inner_n1;
      lawful = ((all_went role n1 ds v past law none h, both.1), h.lawful);
      line_in = subst (λ fs. Deframes (fed past) fs v.outer) (sym (append-nil (came past))) h.line_in;
      driver_out = subst (λ fs. Deframes (taken past) fs v.inner) (sym (append-nil (went past))) h.driver_out;
      to_driver_is = h.to_driver_is;
      to_line_is = ap (λ x. wrote past ++ x) out ∙ put_behind (wrote past) v.to_line (spelled f) (for_line past) (f ∷ []) h.to_line_is (sym (append-nil (spelled f)));
      pipes_fit = subst (λ n. PipesFit role n ds w.pipes (Left f ∷ passes past)) h.outer_n1 both.0;
    })

-- ## What a call answers

-- a call that answers that a frame passed lets one come
pub frame_came : {X : Type 0} (v w : Relay) (r : Result Bool X) → IfOk r (λ one. one ≡ true → PassesIn v.outer.next v.pipes w.pipes v.to_driver w.to_driver) → IfOk r (λ one. one ≡ true → PassesOver v.outer w.outer) → w.outer.n1 ≡ v.outer.n1 → w.inner ≡ v.inner → w.to_line ≡ v.to_line → IfOk r (λ one. one ≡ true → HopsBy v w (λ f. Passed (Came f)))
frame_came v w (Ok one) p over n i l = λ e. hops_came v w (p e) (over e) n i l
frame_came v w (Err x) p over n i l = tt

-- one that answers that none did leaves none that hasn't come
pub none_by : {X : Type 0} (v : Relay) (r : Result Bool X) → IsDeframed → IfOk r (λ one. one ≡ false → v.outer.next ≡ None) → IfOk r (λ one. one ≡ false → AllCame v)
none_by v (Ok one) law none = λ e. all_came v law (none e)
none_by v (Err x) law none = tt

-- ## The pipe's caller

-- octets given or read, a lane that begins, and a loss pass no deframer
pub hops_read : (v w : Relay) (e : ℕ) (octets : List ℕ) → AllLead v.pipes w.pipes (Read e octets) → w ≡ record v { pipes = w.pipes } → Hops v w (Passed (Read e octets))
unfolding Hops LawfulHops AllLead
hops_read v w c octets leads e role n1 ds past h = rw e (record {
  outer_n1 = h.outer_n1;
  inner_n1 = h.inner_n1;
  lawful = (tt, h.lawful);
  line_in = subst (λ fs. Deframes (fed past) fs v.outer) (sym (append-nil (came past))) h.line_in;
  driver_out = subst (λ fs. Deframes (taken past) fs v.inner) (sym (append-nil (went past))) h.driver_out;
  to_driver_is = h.to_driver_is;
  to_line_is = subst (λ fs. wrote past ++ v.to_line ≡ spell fs) (sym (append-nil (for_line past))) h.to_line_is;
  pipes_fit = leads role n1 ds (passes past) h.pipes_fit;
})

-- octets given to a pipe pass
pub hops_gave : (v w : Relay) (e : ℕ) (octets : List ℕ) → AllLead v.pipes w.pipes (Gave e octets) → w ≡ record v { pipes = w.pipes } → Hops v w (Passed (Gave e octets))
unfolding Hops LawfulHops AllLead
hops_gave v w c octets leads e role n1 ds past h = rw e (record {
  outer_n1 = h.outer_n1;
  inner_n1 = h.inner_n1;
  lawful = (tt, h.lawful);
  line_in = subst (λ fs. Deframes (fed past) fs v.outer) (sym (append-nil (came past))) h.line_in;
  driver_out = subst (λ fs. Deframes (taken past) fs v.inner) (sym (append-nil (went past))) h.driver_out;
  to_driver_is = h.to_driver_is;
  to_line_is = subst (λ fs. wrote past ++ v.to_line ≡ spell fs) (sym (append-nil (for_line past))) h.to_line_is;
  pipes_fit = leads role n1 ds (passes past) h.pipes_fit;
})

-- so does a loss of the line
pub hops_lost : (v w : Relay) → AllLead v.pipes w.pipes Lost → w ≡ record v { pipes = w.pipes } → Hops v w (Passed Lost)
unfolding Hops LawfulHops AllLead
hops_lost v w leads e role n1 ds past h = rw e (record {
  outer_n1 = h.outer_n1;
  inner_n1 = h.inner_n1;
  lawful = (tt, h.lawful);
  line_in = subst (λ fs. Deframes (fed past) fs v.outer) (sym (append-nil (came past))) h.line_in;
  driver_out = subst (λ fs. Deframes (taken past) fs v.inner) (sym (append-nil (went past))) h.driver_out;
  to_driver_is = h.to_driver_is;
  to_line_is = subst (λ fs. wrote past ++ v.to_line ≡ spell fs) (sym (append-nil (for_line past))) h.to_line_is;
  pipes_fit = leads role n1 ds (passes past) h.pipes_fit;
})

-- so does a lane's beginning, on a connection of data
pub hops_began : (v w : Relay) (d : ℕ) (how : Begin) (until : Until) → HasPipe v.pipes d → AllLead v.pipes w.pipes (Began d how until) → w ≡ record v { pipes = w.pipes } → Hops v w (Passed (Began d how until))
unfolding Hops LawfulHops AllLead HasPipe
hops_began v w d how until has leads e role n1 ds past h = rw e (record {
  outer_n1 = h.outer_n1;
  inner_n1 = h.inner_n1;
  lawful = (has role n1 ds (passes past) h.pipes_fit, h.lawful);
  line_in = subst (λ fs. Deframes (fed past) fs v.outer) (sym (append-nil (came past))) h.line_in;
  driver_out = subst (λ fs. Deframes (taken past) fs v.inner) (sym (append-nil (went past))) h.driver_out;
  to_driver_is = h.to_driver_is;
  to_line_is = subst (λ fs. wrote past ++ v.to_line ≡ spell fs) (sym (append-nil (for_line past))) h.to_line_is;
  pipes_fit = leads role n1 ds (passes past) h.pipes_fit;
})

-- and its end by a call
pub hops_ended : (v w : Relay) (d : ℕ) → AllLead v.pipes w.pipes (EndedLane d) → w ≡ record v { pipes = w.pipes } → Hops v w (Passed (EndedLane d))
unfolding Hops LawfulHops AllLead
hops_ended v w d leads e role n1 ds past h = rw e (record {
  outer_n1 = h.outer_n1;
  inner_n1 = h.inner_n1;
  lawful = (tt, h.lawful);
  line_in = subst (λ fs. Deframes (fed past) fs v.outer) (sym (append-nil (came past))) h.line_in;
  driver_out = subst (λ fs. Deframes (taken past) fs v.inner) (sym (append-nil (went past))) h.driver_out;
  to_driver_is = h.to_driver_is;
  to_line_is = subst (λ fs. wrote past ++ v.to_line ≡ spell fs) (sym (append-nil (for_line past))) h.to_line_is;
  pipes_fit = leads role n1 ds (passes past) h.pipes_fit;
})

-- where the call is Ok, it ended the lane
pub ended_by : {A X : Type 0} (v w : Relay) (d : ℕ) (r : Result A X) → OnOk r (AllLead v.pipes w.pipes (EndedLane d)) → w ≡ record v { pipes = w.pipes } → OnOk r (Hops v w (Passed (EndedLane d)))
ended_by v w d (Ok x) leads is = hops_ended v w d leads is
ended_by v w d (Err x) leads is = tt

-- where the call is Ok, it gave as many octets as it counts
pub octets_given : {X : Type 0} (v w : Relay) (e : ℕ) (octets : List ℕ) (r : Result ℕ X) → IfOk r (λ count. AllLead v.pipes w.pipes (Gave e (take count octets))) → w ≡ record v { pipes = w.pipes } → IfOk r (λ count. Hops v w (Passed (Gave e (take count octets))))
octets_given v w e octets (Ok count) leads is = hops_gave v w e (take count octets) leads is
octets_given v w e octets (Err x) leads is = tt

-- where the call is Ok, a lane began on a connection of data
pub lane_began : {A X : Type 0} (v w : Relay) (d : ℕ) (how : Begin) (until : Until) (r : Result A X) → OnOk r (HasPipe v.pipes d) → OnOk r (AllLead v.pipes w.pipes (Began d how until)) → w ≡ record v { pipes = w.pipes } → OnOk r (Hops v w (Passed (Began d how until)))
lane_began v w d how until (Ok x) has leads is = hops_began v w d how until has leads is
lane_began v w d how until (Err x) has leads is = tt

-- where the call is Ok, what it answers was read
pub read_by : {X : Type 0} (v w : Relay) (d : ℕ) (octets : Reading → List ℕ) (r : Result Reading X) → IfOk r (λ x. AllLead v.pipes w.pipes (Read d (octets x))) → w ≡ record v { pipes = w.pipes } → IfOk r (λ x. Hops v w (Passed (Read d (octets x))))
read_by v w d octets (Ok x) leads is = hops_read v w d (octets x) leads is
read_by v w d octets (Err x) leads is = tt

-- a relay of two new deframers and new pipes, for which nothing waits, begins
pub begins : (role : Role) (n1 : ℕ) (ds : List ℕ) (v : Relay) → v.outer.n1 ≡ n1 → v.inner.n1 ≡ n1 → Deframes [] [] v.outer → Deframes [] [] v.inner → BeginsAll role ds v.pipes → v.to_driver ≡ [] → v.to_line ≡ [] → BeginsAs role n1 ds v
unfolding BeginsAs BeginsAll LawfulHops
begins role n1 ds v o i out inn p t l = record {
  outer_n1 = o;
  inner_n1 = i;
  lawful = tt;
  line_in = out;
  driver_out = inn;
  to_driver_is = t;
  to_line_is = l;
  pipes_fit = p n1;
}

-- ## Nothing is held back

-- where no frame of the driver is at hand, no octets wait, no flow is due and no data may leave, nothing is held back
pub holds_nothing : (v : Relay) → IsDeframed → v.inner.next ≡ None → v.to_line ≡ [] → OfEachPast v.pipes (λ role past. (d : ℕ) (go : Bool) → ¬ IsDue role d past go) → OfEachPast v.pipes (λ role past. (d : ℕ) → NoneLeaves role past d) → HoldsNothing v
unfolding HoldsNothing OfEachPast
holds_nothing v law none l say idle role n1 ds past h = record {
  all_given = sym (append-nil (wrote past)) ∙ (ap (λ x. wrote past ++ x) (sym l) ∙ h.to_line_is);
  first = all_went role n1 ds v past law none h;
  none_due = say role n1 ds (passes past) h.pipes_fit;
  no_data = idle role n1 ds (passes past) h.pipes_fit;
}

-- ## Whole calls

-- at first nothing came from the line
pub line_none : (k : Relay) → LineIn k k []
line_none k = record { hops = []; only = refl; fed_are = refl; leads = λ role n1 ds past h. h }

-- and no frame passed
pub passes_none : (k : Relay) → PassesOn k k
unfolding PassesOn
passes_none k first octets l = l

line_passed : (k0 k1 k2 : Relay) (octets : List ℕ) → LineIn k0 k1 octets → HopsBy k1 k2 (λ f. Passed (Came f)) → LineIn k0 k2 octets
unfolding Hops
line_passed k0 k1 k2 octets l b = record {
  hops = Passed (Came b.frame) ∷ l.hops;
  only = l.only;
  fed_are = l.fed_are;
  leads = λ role n1 ds past h. b.leads role n1 ds (l.hops ++ past) (l.leads role n1 ds past h);
}

-- one more frame that comes passes on
pub passes_one : (k0 k1 k2 : Relay) → PassesOn k0 k1 → HopsBy k1 k2 (λ f. Passed (Came f)) → PassesOn k0 k2
unfolding PassesOn
passes_one k0 k1 k2 p b first octets l = line_passed first k1 k2 octets (p first octets l) b

-- the frames that passed came of the same octets of the line
pub line_on : (k0 k1 k2 : Relay) (octets : List ℕ) → LineIn k0 k1 octets → PassesOn k1 k2 → LineIn k0 k2 octets
unfolding PassesOn
line_on k0 k1 k2 octets l p = p k0 octets l

line_fed : (k0 k1 k2 : Relay) (xs ys : List ℕ) → LineIn k0 k1 xs → Hops k1 k2 (Fed ys) → LineIn k0 k2 (xs ++ ys)
unfolding Hops
line_fed k0 k1 k2 xs ys l b = record {
  hops = Fed ys ∷ l.hops;
  only = l.only;
  fed_are = ap (λ x. x ++ ys) l.fed_are;
  leads = λ role n1 ds past h. b role n1 ds (l.hops ++ past) (l.leads role n1 ds past h);
}

-- the next octets of the line come behind the first
pub line_more : (k0 k1 k2 : Relay) (octets : List ℕ) (n count : ℕ) → LineIn k0 k1 (take n octets) → Hops k1 k2 (Fed (take count (drop n octets))) → LineIn k0 k2 (take (n + count) octets)
line_more k0 k1 k2 octets n count l b = subst (λ xs. LineIn k0 k2 xs) (sym (take-add n count octets)) (line_fed k0 k1 k2 (take n octets) (take count (drop n octets)) l b)

-- octets wait already for the line, so the driver's frame stays
pub driver_waits : (k : Relay) → DriverOut k k
driver_waits k = still_there refl

-- the driver's frame goes out
pub driver_goes : (v w : Relay) → HopsBy v w (λ f. Passed (Went f)) → DriverOut v w
driver_goes v w b = driver_out b

-- there is none
pub driver_none : (v w : Relay) → w ≡ v → DriverOut v w
driver_none v w e = still_there e

-- octets wait already for the line, so nothing goes
pub out_waits : (k : Relay) → OneOut k k
out_waits k = still_out refl

-- a frame of the driver's goes out
pub out_goes : (v w : Relay) → HopsBy v w (λ f. Passed (Went f)) → OneOut v w
out_goes v w b = went_out b

-- a frame of data goes out
pub out_leaves : (v w : Relay) → HopsBy v w (λ f. Passed (Left f)) → OneOut v w
out_leaves v w b = left_out b

-- where no octets wait, and no frame of the driver's, no word of flow and no data goes, nothing is held back
pub holds_by : (v y x : Relay) → IsDeframed → (length v.to_line == 0) ≡ true → v.inner.next ≡ None → OfEachPast v.pipes (λ role past. (d : ℕ) (go : Bool) → ¬ IsDue role d past go) → y ≡ v → OfEachPast y.pipes (λ role past. (d : ℕ) → NoneLeaves role past d) → x ≡ y → HoldsNothing x
holds_by v y x law empty none say e idle still = subst HoldsNothing (sym (still ∙ e)) (holds_nothing v law none (nil_from_length v.to_line (eqb-true (length v.to_line) 0 empty)) say (subst (λ (k : Relay). OfEachPast k.pipes (λ role past. (d : ℕ) → NoneLeaves role past d)) e idle))

-- a word of flow goes out
pub out_flows : (v w : Relay) → HopsBy v w (λ f. Passed (Flowed f)) → OneOut v w
out_flows v w b = flow_out b

-- ## Flow

-- what is due of the flow goes to the line, where the driver has no frame at hand
pub hops_flowed : (v w : Relay) (f : Frame) → IsDeframed → v.inner.next ≡ None → AllLead v.pipes w.pipes (Flowed f) → w.to_line ≡ v.to_line ++ spelled f → w ≡ record v { pipes = w.pipes; to_line = w.to_line } → HopsBy v w (λ f. Passed (Flowed f))
unfolding Hops LawfulHops AllLead
hops_flowed v w f law none leads out e = record {
  frame = f;
  leads = λ role n1 ds past h. rw e (record {
    outer_n1 = h.outer_n1;
    inner_n1 = h.inner_n1;
    lawful = (all_went role n1 ds v past law none h, h.lawful);
    line_in = subst (λ fs. Deframes (fed past) fs v.outer) (sym (append-nil (came past))) h.line_in;
    driver_out = subst (λ fs. Deframes (taken past) fs v.inner) (sym (append-nil (went past))) h.driver_out;
    to_driver_is = h.to_driver_is;
    to_line_is = ap (λ x. wrote past ++ x) out ∙ put_behind (wrote past) v.to_line (spelled f) (for_line past) (f ∷ []) h.to_line_is (sym (append-nil (spelled f)));
    pipes_fit = leads role n1 ds (passes past) h.pipes_fit;
  });
}
