-- What the lines of the input ask is submitted, on each connection in order.
use Rattle.std.specs.Prelude.{◌≡◌, ℕ, zero, suc, ◌+◌, Bool, true, false, List, [], ◌∷◌, ◌++◌, length, Option, None, Some, Result, Ok, Err, IfSome, OnErr, OnOk, refl, replicate}
use Rattle.std.proofs.Common.{ap, append_assoc, arith, inl, inr, sym, subst, append-nil, ◌∙◌}
use Rattle.std.proofs.lemmas.Grind.{flat_map-append}
use Rattle.std.proofs.lemmas.List.{length-append}
use Rattle.std.proofs.KnownBytes.{Consumes-nil}
use Rattle.std.specs.Io.KnownBytes.{Consumes, IsAtEnd}
use Rattle.mux_frame.specs.declared.dlci.Dlci.{Dlci}
use Rattle.modem_desk.specs.declared.request.Ask.{Ask}
use Rattle.modem_desk.specs.declared.request.Ask.TheVariants as ask
use Rattle.modem_desk.specs.declared.request.Request.{Request}
use Rattle.ctl_text.specs.Input.{input_lines}
use Rattle.ctl_text.specs.Words.{IsCommand}
use Rattle.ctl_text.specs.Writing.{IsBegun}
use Rattle.ctl_text.specs.declared.expected.Expected.{Expected}
use Rattle.ctl_drive.specs.Asking.{AsksOn, HasAsked, IsThrough, LinesAsk, PlanView, NamesRead, ReadsAll, ReadsLine, StopsOn, submitted_on, text_on, texts_on, waits_at}
use Rattle.ctl_drive.specs.Input.{HasRead, LinesView, Reads}
use Rattle.ctl_drive.specs.Plans.{after_asking}
use Rattle.ctl_drive.specs.Running.{plan_begun}
use Rattle.ctl_drive.specs.Saying.{IsBadFor, NamesBad, bad_text}
use Rattle.ctl_drive.specs.Showing.{control_ask}
use Rattle.ctl_drive.specs.declared.users.Control.{Control}
use Rattle.ctl_drive.specs.declared.users.Control.TheVariants as control
use Rattle.ctl_drive.proofs.Said.{names_at, names_none}

apart : true ≡ false → ⊥
apart e = cc

-- nothing more is asked
pub asks_none : (p : PlanView) (rs : List Request) (said : Option (List ℕ)) → AsksOn p p rs rs said said
asks_none p rs said = record { on = λ first silent h. h }

-- what is asked by two steps is asked by both together
pub asks_then : (p q r : PlanView) (a b c : List Request) (u v w : Option (List ℕ)) → AsksOn p q a b u v → AsksOn q r b c v w → AsksOn p r a c u w
asks_then p q r a b c u v w g h = record { on = λ first silent k. h.on first silent (g.on first silent k) }

-- no more was asked
pub stops_here : (p q : PlanView) (a b : List Request) (u v : Option (List ℕ)) → AsksOn p q a b u v → StopsOn p a u v
stops_here p q a b u v h = record { last = q; submitted = b; asks = h }

-- it stopped behind what was asked first
pub stops_then : (p q : PlanView) (a b : List Request) (u v w : Option (List ℕ)) → AsksOn p q a b u v → StopsOn q b v w → StopsOn p a u w
stops_then p q a b u v w g h = record { last = h.last; submitted = h.submitted; asks = asks_then p q h.last a b h.submitted u v w g h.asks }

-- whatever it gives
pub stops_if : {T E : Type 0} (r : Result T E) (p : PlanView) (a : List Request) (u v : Option (List ℕ)) → StopsOn p a u v → OnErr r (StopsOn p a u v)
stops_if (Ok x) p a u v h = tt
stops_if (Err why) p a u v h = h

-- however it went
pub stops_either : {T E : Type 0} (r : Result T E) (p q : PlanView) (a b : List Request) (u v : Option (List ℕ)) → OnOk r (AsksOn p q a b u v) → OnErr r (StopsOn p a u v) → StopsOn p a u v
stops_either (Ok x) p q a b u v asks stops = stops_here p q a b u v asks
stops_either (Err why) p q a b u v asks stops = stops

-- nothing was submitted, and the same waits
pub asks_same : (p q : PlanView) (a b : List Request) (said : Option (List ℕ)) → q ≡ p → ((d : ℕ) → submitted_on d b ≡ submitted_on d a) → AsksOn p q a b said said
asks_same p q a b said plan submitted = subst (λ (x : PlanView). AsksOn p x a b said said) (sym plan) (record {
  on = λ first silent h. record {
    lines = h.lines;
    read = h.read;
    counted = h.counted;
    asks = h.asks;
    asked = h.asked;
    in_turn = λ d. h.in_turn d ∙ ap (λ (l : List (List ℕ)). l ++ waits_at p.waiting d) (sym (submitted d));
    named = h.named;
    through = h.through;
  };
})

length_more : (lines : List (List ℕ)) (line : List ℕ) → length (lines ++ line ∷ []) ≡ length lines + 1
length_more [] line = refl
length_more (l ∷ lines) line = let more = length_more lines line in omega (arith, more)

-- a line was read
pub asks_read : (old mid new : PlanView) (line : List ℕ) (rs : List Request) (said more : Option (List ℕ)) → old.stopping ≡ false → Reads old.input mid.input (line ∷ []) → mid ≡ record old { input = mid.input }
    → ReadsLine mid new line said more → AsksOn old new rs rs said more
unfolding Reads
asks_read old mid new line rs said more going reads stays h = record {
  on = λ first silent k.
      let count : mid.count ≡ length k.lines = ap (λ (p : PlanView). p.count) stays ∙ k.counted in
      let was : NamesBad k.lines mid.was_bad silent said = subst (λ (b : Bool). NamesBad k.lines b silent said) (sym (ap (λ (p : PlanView). p.was_bad) stays)) k.named in
      record {
        lines = k.lines ++ line ∷ [];
        read = subst (λ (l : LinesView). HasRead first l (k.lines ++ line ∷ [])) (sym (ap (λ (p : PlanView). p.input) h.stays)) (reads first k.lines k.read);
        counted = ap (λ (p : PlanView). p.count) h.stays ∙ ap (λ (n : ℕ). n + 1) count ∙ sym (length_more k.lines line);
        asks = k.asks ++ h.said;
        asked = LinesAsk.ask_next k.lines k.asks line h.said k.asked h.asks;
        in_turn = λ d.
            flat_map-append (text_on d) k.asks h.said
            ∙ ap (λ (l : List (List ℕ)). l ++ texts_on d h.said) (k.in_turn d)
            ∙ append_assoc (submitted_on d rs) (waits_at old.waiting d) (texts_on d h.said)
            ∙ ap (λ (l : List (List ℕ)). submitted_on d rs ++ l) (ap (λ (p : PlanView). waits_at p.waiting d ++ texts_on d h.said) (sym stays) ∙ sym (h.waits d));
        named = names_at k.lines mid.count line mid.was_bad new.was_bad silent said more count was h.names;
        through = λ e. absurd (apart (sym e ∙ ap (λ (p : PlanView). p.stopping) h.stays ∙ ap (λ (p : PlanView). p.stopping) stays ∙ going));
      };
}

-- it is a command
pub reads_command : (old view : PlanView) (number : ℕ) (waiting : List (List (List ℕ))) (line text : List ℕ) (d : Dlci) (said : Option (List ℕ)) → view ≡ old → number ≡ view.count + 1
    → ((e : ℕ) → waits_at waiting e ≡ waits_at view.waiting e ++ text_on e (ask.Command d text)) → IsCommand line d.number text → ReadsLine old (record view { count = number; waiting = waiting }) line said said
reads_command old view number waiting line text d said same next behind command = subst (λ (p : PlanView). ReadsLine p (record view { count = number; waiting = waiting }) line said said) same (record {
  said = ask.Command d text ∷ [];
  asks = command;
  waits = λ e. behind e ∙ ap (λ (l : List (List ℕ)). waits_at view.waiting e ++ l) (sym (append-nil (text_on e (ask.Command d text))));
  names = inl (inr (record { dlci = d.number; text = text; command = command }), refl, refl);
  stays = ap (λ (n : ℕ). record view { count = n; waiting = waiting }) next;
})

-- it is a bad one
pub reads_bad : (old view : PlanView) (number : ℕ) (line : List ℕ) (why : Expected) (said more : Option (List ℕ)) → view ≡ old → number ≡ view.count + 1
    → IsBadFor line why → IsBegun said more (bad_text number why) → ReadsLine old (record view { count = number; was_bad = true }) line said more
reads_bad old view number line why said more same next bad begun = subst (λ (p : PlanView). ReadsLine p (record view { count = number; was_bad = true }) line said more) same (record {
  said = [];
  asks = bad.none;
  waits = λ d. sym (append-nil (waits_at view.waiting d));
  names = inr (why, bad, refl, subst (λ (n : ℕ). IsBegun said more (bad_text n why)) next begun);
  stays = ap (λ (n : ℕ). record view { count = n; was_bad = true }) next;
})

-- of the same line
pub reads_same : (old new : PlanView) (line same : List ℕ) (said more : Option (List ℕ)) → line ≡ same → ReadsLine old new line said more → ReadsLine old new same said more
reads_same old new line same said more is h = subst (λ (l : List ℕ). ReadsLine old new l said more) is h

-- none was there
pub asks_waits : (old new : PlanView) (rs : List Request) (said : Option (List ℕ)) → old.stopping ≡ false → Reads old.input new.input [] → new ≡ record old { input = new.input } → AsksOn old new rs rs said said
unfolding Reads
asks_waits old new rs said going reads stays = record {
  on = λ first silent h. record {
    lines = h.lines;
    read = subst (HasRead first new.input) (append-nil h.lines) (reads first h.lines h.read);
    counted = ap (λ (p : PlanView). p.count) stays ∙ h.counted;
    asks = h.asks;
    asked = h.asked;
    in_turn = λ d. h.in_turn d ∙ ap (λ (p : PlanView). submitted_on d rs ++ waits_at p.waiting d) (sym stays);
    named = subst (λ (b : Bool). NamesBad h.lines b silent said) (sym (ap (λ (p : PlanView). p.was_bad) stays)) h.named;
    through = λ e. absurd (apart (sym e ∙ ap (λ (p : PlanView). p.stopping) stays ∙ going));
  };
}

-- a request more
pub submitted_more : (new old : List Request) (r : Request) → new ≡ old ++ r ∷ [] → (d : ℕ) → submitted_on d new ≡ submitted_on d old ++ text_on d r.ask
submitted_more new old r e d =
    ap (submitted_on d) e ∙ flat_map-append (λ (q : Request). text_on d q.ask) old (r ∷ [])
    ∙ ap (λ (l : List (List ℕ)). submitted_on d old ++ l) (append-nil (text_on d r.ask))

-- so there is one request more
pub one_longer : (new old : List Request) (r : Request) → new ≡ old ++ r ∷ [] → length new ≡ length old + 1
one_longer new old r e = ap (length {A = Request}) e ∙ length-append old (r ∷ [])

no_text : (a : Control) (d : ℕ) → text_on d (control_ask a) ≡ []
no_text (control.Open e) d = refl
no_text (control.Close e) d = refl
no_text control.Stop d = refl

-- that isn't a command
pub submitted_other : (new old : List Request) (r : Request) (a : Control) → new ≡ old ++ r ∷ [] → r.ask ≡ control_ask a → (d : ℕ) → submitted_on d new ≡ submitted_on d old
submitted_other new old r a e is d =
    submitted_more new old r e d ∙ ap (λ (l : List (List ℕ)). submitted_on d old ++ l) (ap (text_on d) is ∙ no_text a d) ∙ append-nil (submitted_on d old)

-- of the same plan
pub asks_from : (view old new : PlanView) (a b : List Request) (said more : Option (List ℕ)) → view ≡ old → AsksOn view new a b said more → AsksOn old new a b said more
asks_from view old new a b said more same h = subst (λ (p : PlanView). AsksOn p new a b said more) same h

none_behind : (xs ys : List (List ℕ)) → xs ++ ys ≡ [] → ys ≡ []
none_behind [] ys e = e
none_behind (x ∷ xs) ys e = absurd cc

-- the first command that waited on its connection was submitted
pub asks_submitted : (old new : PlanView) (a b : List Request) (what : Ask) (said : Option (List ℕ)) → new ≡ record old { waiting = new.waiting }
    → ((d : ℕ) → waits_at old.waiting d ≡ text_on d what ++ waits_at new.waiting d) → ((d : ℕ) → submitted_on d b ≡ submitted_on d a ++ text_on d what) → AsksOn old new a b said said
asks_submitted old new a b what said same taken more = subst (λ (p : PlanView). AsksOn old p a b said said) (sym same) (record {
  on = λ first silent h. record {
    lines = h.lines;
    read = h.read;
    counted = h.counted;
    asks = h.asks;
    asked = h.asked;
    in_turn = λ d.
        h.in_turn d ∙ ap (λ (l : List (List ℕ)). submitted_on d a ++ l) (taken d)
        ∙ sym (append_assoc (submitted_on d a) (text_on d what) (waits_at new.waiting d)) ∙ ap (λ (l : List (List ℕ)). l ++ waits_at new.waiting d) (sym (more d));
    named = h.named;
    through = λ e.
        let t = h.through e in
        record { ended = t.ended; no_text = t.no_text; none_waits = λ d. none_behind (text_on d what) (waits_at new.waiting d) (sym (taken d) ∙ t.none_waits d) };
  };
})

-- a Stop was asked
pub asks_stops : (old new : PlanView) (a b : List Request) (said : Option (List ℕ)) → IsThrough old → new ≡ record old { stopping = true } → ((d : ℕ) → submitted_on d b ≡ submitted_on d a) → AsksOn old new a b said said
asks_stops old new a b said through same none = subst (λ (p : PlanView). AsksOn old p a b said said) (sym same) (record {
  on = λ first silent h. record {
    lines = h.lines;
    read = h.read;
    counted = h.counted;
    asks = h.asks;
    asked = h.asked;
    in_turn = λ d. h.in_turn d ∙ ap (λ (l : List (List ℕ)). l ++ waits_at old.waiting d) (sym (none d));
    named = h.named;
    through = λ e. record { ended = through.ended; no_text = through.no_text; none_waits = through.none_waits };
  };
})

-- ## From its beginning to its end

none_waits_at : (n d : ℕ) → waits_at (replicate n []) d ≡ []
none_waits_at zero zero = refl
none_waits_at zero (suc d) = refl
none_waits_at (suc n) zero = refl
none_waits_at (suc n) (suc d) = none_waits_at n d

asked_none : (input silent : Option (List ℕ)) → HasAsked input (plan_begun input) [] silent silent
asked_none input silent = record {
  lines = [];
  read = record {
    came = [];
    consumed = Consumes-nil input;
    lines_are = λ more e. refl;
    at_end = λ e f. absurd (apart (sym e));
  };
  counted = refl;
  asks = [];
  asked = LinesAsk.ask_none;
  in_turn = λ d. sym (none_waits_at 62 d);
  named = names_none silent;
  through = λ e. absurd (apart (sym e));
}

came_all : (had left : Option (List ℕ)) (came : List ℕ) → Consumes had left came → IsAtEnd left → IfSome had (λ known. came ≡ known)
came_all None left came h e = tt
came_all (Some octets) None came h e = absurd h
came_all (Some octets) (Some rest) came h e = sym (h ∙ ap (λ (l : List ℕ). came ++ l) e ∙ append-nil came)

lines_read : (had : Option (List ℕ)) (l : LinesView) (lines : List (List ℕ)) (h : HasRead had l lines) → l.text ≡ [] → input_lines h.came ≡ lines
lines_read had l lines h none =
    ap input_lines (sym (append-nil h.came)) ∙ h.lines_are [] (λ e. refl) ∙ ap (λ (t : List ℕ). lines ++ input_lines (t ++ [])) none ∙ append-nil lines

-- all was asked where the multiplexer was to end
asked_all : (input : Option (List ℕ)) (p : PlanView) (rs : List Request) (silent said : Option (List ℕ)) → HasAsked input p rs silent said → p.stopping ≡ true → p.input.failed ≡ false → ReadsAll input rs p.was_bad silent said
asked_all input p rs silent said h stops well =
    let t = h.through stops in
    let same : h.lines ≡ input_lines h.read.came = sym (lines_read input p.input h.lines h.read t.no_text) in
    record {
      octets = h.read.came;
      all = came_all input p.input.left h.read.came h.read.consumed (h.read.at_end t.ended well);
      asks = h.asks;
      asked = subst (λ (lines : List (List ℕ)). LinesAsk lines h.asks) same h.asked;
      each = λ d. h.in_turn d ∙ ap (λ (l : List (List ℕ)). submitted_on d rs ++ l) (t.none_waits d) ∙ append-nil (submitted_on d rs);
      named = subst (λ (lines : List (List ℕ)). NamesBad lines p.was_bad silent said) same h.named;
    }

-- what was asked and named of a plan that has begun
pub has_asked : (input : Option (List ℕ)) (p : PlanView) (begun ended : List Request) (silent said : Option (List ℕ)) → begun ≡ [] → AsksOn (plan_begun input) p begun ended silent said → HasAsked input p ended silent said
has_asked input p begun ended silent said none asks = asks.on input silent (subst (λ (rs : List Request). HasAsked input (plan_begun input) rs silent silent) (sym none) (asked_none input silent))

-- without a fault, where the multiplexer is to end, the whole input was read and asked, and its bad lines were named
pub all_asked : (input : Option (List ℕ)) (p : PlanView) (rs : List Request) (silent said : Option (List ℕ)) (was_bad : Bool) → HasAsked input p rs silent said → was_bad ≡ p.was_bad → p.stopping ≡ true → p.input.failed ≡ false → ReadsAll input rs was_bad silent said
all_asked input p rs silent said was_bad h same stops well = subst (λ (b : Bool). ReadsAll input rs b silent said) (sym same) (asked_all input p rs silent said h stops well)

-- what was named of it
pub names_read : (input : Option (List ℕ)) (p : PlanView) (rs : List Request) (silent said : Option (List ℕ)) → HasAsked input p rs silent said → NamesRead input silent said
names_read input p rs silent said h = record { input = p.input; lines = h.lines; read = h.read; was_bad = p.was_bad; named = h.named }

-- nothing was read
pub names_nothing : (input silent : Option (List ℕ)) → NamesRead input silent silent
names_nothing input silent = names_read input (plan_begun input) [] silent silent (asked_none input silent)

-- of a plan that stopped after it had begun, the bad ones of the lines read were named
pub names_stopped : (input : Option (List ℕ)) (p : PlanView) (begun : List Request) (silent said : Option (List ℕ)) → p ≡ plan_begun input → begun ≡ [] → StopsOn p begun silent said → NamesRead input silent said
names_stopped input p begun silent said same none stops =
    let h : StopsOn (plan_begun input) begun silent said = subst (λ (q : PlanView). StopsOn q begun silent said) same stops in
    names_read input h.last h.submitted silent said (has_asked input h.last begun h.submitted silent said none h.asks)

-- ## Something is asked beside the lines

-- it is no command, so nothing that waits goes; a Stop is asked where all is through
pub asks_after : (a : Control) (old new : PlanView) (rs ss : List Request) (said : Option (List ℕ)) → (a ≡ control.Stop → IsThrough old) → new ≡ after_asking a old → ((d : ℕ) → submitted_on d ss ≡ submitted_on d rs) → AsksOn old new rs ss said said
asks_after control.Stop old new rs ss said through same none = asks_stops old new rs ss said (through refl) same none
asks_after (control.Open d) old new rs ss said through same none = asks_same old new rs ss said same none
asks_after (control.Close d) old new rs ss said through same none = asks_same old new rs ss said same none
