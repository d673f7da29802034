-- Of a modem with words the contexts that are active are defined, and it is attached while one is.
use Rattle.std.specs.Prelude.{◌≡◌, ℕ, ◌==◌, ◌||◌, nat_lt, Bool, true, false, List, [], ◌∷◌, map, filter, fold, Option, Some, None, is_some, cond, if◌then◌else◌, refl}
use Rattle.std.proofs.Common.{arith, ap, ◌∙◌}
use Rattle.std.proofs.lemmas.Bool.Decides.{nat_tests}
use Rattle.at_cmds.specs.declared.command.Command.{Command}
use Rattle.at_cmds.specs.declared.command.Command.TheVariants.{PinEnter, OperChoose, ContextSet}
use Rattle.at_cmds.specs.declared.command.OperChoice.TheVariants.{Automatic, Deregister, Manual}
use Rattle.modem_sim.specs.declared.contexts.PdpContext.{PdpContext}
use Rattle.modem_sim.specs.declared.own_answers.OwnLine.{OwnLine}
use Rattle.modem_sim.specs.declared.state.Lock.{Lock}
use Rattle.modem_sim.specs.declared.state.Lock.TheVariants.{Ready, NeedPin, NeedPuk}
use Rattle.modem_sim.specs.declared.state.ModemState.{ModemState}
use Rattle.modem_sim.specs.declared.state.Words.{Words}
use Rattle.modem_sim.specs.declared.words.Word.{Word}
use Rattle.modem_sim.specs.declared.words.Word.TheVariants.{Reset, Echo, Usual, Identity, Manufacturer, Product, Revision, Serial, Subscriber, Capabilities, Functionality, FunctionalityQuery, FunctionalityForms, RegForms, Report, ReportQuery, ReportForms, OperFormat, ContextForms, Activate, ActivityQuery, ActivityForms, Addresses, AddressForms, Dial, SetCharset, CharsetQuery, CharsetForms, LockForms, LockQuery, Unlock, Forms, ErrorsQuery, MultiplexerQuery}
use Rattle.modem_sim.specs.Contexts.{active_after, becomes_active, is_active, is_defined, names, with_context}
use Rattle.modem_sim.specs.Laws.{after_lines}
use Rattle.at_cmds.specs.Values.{command_of}
use Rattle.modem_sim.specs.Steps.{activated, after_command, after_refusal, after_word_refusal, after_wrong_puk, context_made, settled, word_after, word_refusal}
use Rattle.modem_sim.specs.LineSteps.{is_too_long, line_commands, nothing_ran, own_answer, own_step, ran_command, ran_next, ran_other, ran_text, ran_unless, ran_word, refusal_as, refused_by, step, step_as, worded_by, Ran}
use Rattle.modem_sim.specs.Words.{word_of}
use Rattle.modem_sim.specs.WordLaws.{ActiveAreThere, KeepsActive}
use Rattle.modem_sim.proofs.modem_steps.StandardModems.{carried_words}

-- ## Contexts by their numbers

or_more : (a b c : Bool) → (b ≡ true → c ≡ true) → (a || b) ≡ true → (a || c) ≡ true
or_more true b c more is = refl
or_more false b c more is = more is

or_behind : (a b : Bool) → b ≡ true → (a || b) ≡ true
or_behind true b is = refl
or_behind false b is = is

set_defined_at : (new c : PdpContext) (contexts : List PdpContext) (cid : ℕ) (below same : Bool) → (c.cid == new.cid) ≡ same → (is_defined (Some cid) contexts ≡ true → is_defined (Some cid) (with_context new contexts) ≡ true) → is_defined (Some cid) (c ∷ contexts) ≡ true → is_defined (Some cid) (if below then c ∷ with_context new contexts else if same then new ∷ contexts else new ∷ c ∷ contexts) ≡ true
set_defined_at new c contexts cid true same is more has = or_more (c.cid == cid) _ _ more has
set_defined_at new c contexts cid false true is more has = let equal : new.cid ≡ c.cid = grind (arith, nat_tests) in rw equal has
set_defined_at new c contexts cid false false is more has = or_behind (new.cid == cid) _ has

-- a context stays defined where another is set
set_defined : (new : PdpContext) (contexts : List PdpContext) (cid : ℕ) → is_defined (Some cid) contexts ≡ true → is_defined (Some cid) (with_context new contexts) ≡ true
set_defined new [] cid has = cc
set_defined new (c ∷ contexts) cid has = set_defined_at new c contexts cid (nat_lt c.cid new.cid) (c.cid == new.cid) refl (set_defined new contexts cid) has

abbrev cid_of : PdpContext → ℕ
cid_of c = c.cid

found_defined_at : (c : PdpContext) (contexts kept : List PdpContext) (cid : ℕ) (b : Bool) → (is_active (map cid_of kept) cid ≡ true → is_defined (Some cid) contexts ≡ true) → is_active (map cid_of (cond b (c ∷ kept) kept)) cid ≡ true → is_defined (Some cid) (c ∷ contexts) ≡ true
found_defined_at c contexts kept cid true more has = or_more (c.cid == cid) _ _ more has
found_defined_at c contexts kept cid false more has = or_behind (c.cid == cid) _ (more has)

-- what becomes active is defined
found_defined : (test : PdpContext → Bool) (contexts : List PdpContext) (cid : ℕ) → is_active (map cid_of (filter test contexts)) cid ≡ true → is_defined (Some cid) contexts ≡ true
found_defined test [] cid has = cc
found_defined test (c ∷ contexts) cid has = found_defined_at c contexts (filter test contexts) cid (test c) (found_defined test contexts cid) has

unnamed : (named was : Bool) → (if named then false else was) ≡ true → was ≡ true
unnamed true was is = cc
unnamed false was is = is

still_here : (active : List ℕ) (n cid : ℕ) (b : Bool) (more : Bool) → (n == cid) ≡ b → is_active active n ≡ true → (more ≡ true → is_active active cid ≡ true) → (b || more) ≡ true → is_active active cid ≡ true
still_here active n cid true more same is later has = let equal : cid ≡ n = grind (arith, nat_tests) in rw equal is
still_here active n cid false more same is later has = later has

still_active_at : (which : Option ℕ) (active : List ℕ) (c : PdpContext) (kept : List PdpContext) (cid : ℕ) (b : Bool) → becomes_active false which active c ≡ b → (is_active (map cid_of kept) cid ≡ true → is_active active cid ≡ true) → is_active (map cid_of (cond b (c ∷ kept) kept)) cid ≡ true → is_active active cid ≡ true
still_active_at which active c kept cid true is more has = still_here active c.cid cid (c.cid == cid) (is_active (map cid_of kept) cid) refl (unnamed (names which c) (is_active active c.cid) is) more has
still_active_at which active c kept cid false is more has = more has

-- where contexts become inactive, those that are active then were
still_active : (which : Option ℕ) (active : List ℕ) (contexts : List PdpContext) (cid : ℕ) → is_active (active_after false which active contexts) cid ≡ true → is_active active cid ≡ true
still_active which active [] cid has = cc
still_active which active (c ∷ contexts) cid has = still_active_at which active c (filter (becomes_active false which active) contexts) cid (becomes_active false which active c) refl (still_active which active contexts cid) has

-- ## Commands

record Keeps (s : ModemState) : Type 0 where
  words : is_some s.words ≡ true
  there : ActiveAreThere s

carried_defined : (s : ModemState) (c : Command) → Keeps s → (cid : ℕ) → is_active (after_command s c).active cid ≡ true → is_defined (Some cid) (after_command s c).contexts ≡ true
carried_defined s (OperChoose Automatic) kept = kept.there.defined
carried_defined s (OperChoose (Manual oper)) kept = kept.there.defined
carried_defined s (OperChoose Deregister) kept = kept.there.defined
carried_defined s (ContextSet cid pdp apn) kept = λ n is. set_defined (context_made cid pdp apn) s.contexts n (kept.there.defined n is)
carried_defined s c kept = kept.there.defined

settled_there : (s : ModemState) (b : Bool) → s.attached ≡ b → is_some s.words ≡ true → ((cid : ℕ) → is_active s.active cid ≡ true → is_defined (Some cid) s.contexts ≡ true) → Keeps (if b then s else record s { active = [] })
settled_there s true attached words defined = record { words = words; there = record { defined = defined; attached = λ cid is. attached } }
settled_there s false attached words defined = record { words = words; there = record { defined = λ cid is. cc; attached = λ cid is. cc } }

carried_there : (s : ModemState) (c : Command) → Keeps s → Keeps (settled (after_command s c))
carried_there s c kept =
    settled_there (after_command s c) (after_command s c).attached refl (ap is_some (carried_words s c) ∙ kept.words) (carried_defined s c kept)

refused_there : (s : ModemState) (c : Command) → Keeps s → Keeps (after_refusal s c)
refused_there s (PinEnter pin) kept = record { words = kept.words; there = record { defined = kept.there.defined; attached = kept.there.attached } }
refused_there s c kept = kept

command_there : (o : Option ℕ) (r : Ran) (c : Command) → Keeps r.state → Keeps (ran_command o r c).state
command_there None r c kept = carried_there r.state c kept
command_there (Some number) r c kept = refused_there r.state c kept

wrong_puk : (lock : Lock) (w : Words) (s : ModemState) → Keeps s → Keeps (after_wrong_puk lock w s)
wrong_puk NeedPuk w s kept = record { words = refl; there = record { defined = kept.there.defined; attached = kept.there.attached } }
wrong_puk Ready w s kept = kept
wrong_puk (NeedPin pin tries) w s kept = kept

refused_word : (w : Words) (s : ModemState) (x : Word) → Keeps s → Keeps (after_word_refusal w s x)
refused_word w s Reset kept = kept
refused_word w s (Echo on) kept = kept
refused_word w s Usual kept = kept
refused_word w s Identity kept = kept
refused_word w s Manufacturer kept = kept
refused_word w s Product kept = kept
refused_word w s Revision kept = kept
refused_word w s Serial kept = kept
refused_word w s Subscriber kept = kept
refused_word w s Capabilities kept = kept
refused_word w s (Functionality n) kept = kept
refused_word w s FunctionalityQuery kept = kept
refused_word w s FunctionalityForms kept = kept
refused_word w s RegForms kept = kept
refused_word w s (Report d n) kept = kept
refused_word w s (ReportQuery d) kept = kept
refused_word w s (ReportForms d) kept = kept
refused_word w s (OperFormat n) kept = kept
refused_word w s ContextForms kept = kept
refused_word w s (Activate on which) kept = kept
refused_word w s ActivityQuery kept = kept
refused_word w s ActivityForms kept = kept
refused_word w s (Addresses which) kept = kept
refused_word w s AddressForms kept = kept
refused_word w s (Dial cid) kept = kept
refused_word w s (SetCharset charset) kept = kept
refused_word w s CharsetQuery kept = kept
refused_word w s CharsetForms kept = kept
refused_word w s LockForms kept = kept
refused_word w s LockQuery kept = kept
refused_word w s (Unlock right) kept = wrong_puk s.lock w s kept
refused_word w s (Forms form) kept = kept
refused_word w s ErrorsQuery kept = kept
refused_word w s MultiplexerQuery kept = kept

switched_there : (n : ℕ) (w : Words) (s : ModemState) → Keeps s → (b : Bool) → Keeps (if b then record s { oper = Automatic; words = Some (record w { functionality = n }) } else record s { oper = Deregister; attached = false; active = []; words = Some (record w { functionality = n }) })
switched_there n w s kept true = record { words = refl; there = record { defined = kept.there.defined; attached = kept.there.attached } }
switched_there n w s kept false = record { words = refl; there = record { defined = λ cid is. cc; attached = λ cid is. cc } }

or_on : (a : Bool) → (a || true) ≡ true
or_on true = refl
or_on false = refl

or_off : (a : Bool) → a ≡ true → (a || false) ≡ true
or_off true is = refl
or_off false is = is

-- the modem attaches for what becomes active, and is attached where a context was active
attached_after : (on : Bool) (which : Option ℕ) (s : ModemState) → Keeps s → (cid : ℕ) → is_active (active_after on which s.active s.contexts) cid ≡ true → (s.attached || on) ≡ true
attached_after true which s kept cid is = or_on s.attached
attached_after false which s kept cid is = or_off s.attached (kept.there.attached cid (still_active which s.active s.contexts cid is))

activated_there : (on : Bool) (which : Option ℕ) (s : ModemState) → Keeps s → Keeps (activated on which s)
activated_there on which s kept = record {
  words = kept.words;
  there = record {
    defined = found_defined (becomes_active on which s.active) s.contexts;
    attached = attached_after on which s kept;
  };
}

word_there : (w : Words) (s : ModemState) (x : Word) → Keeps s → Keeps (word_after w s x)
word_there w s Reset kept = record { words = refl; there = record { defined = kept.there.defined; attached = kept.there.attached } }
word_there w s (Echo on) kept = record { words = refl; there = record { defined = kept.there.defined; attached = kept.there.attached } }
word_there w s Usual kept = kept
word_there w s Identity kept = kept
word_there w s Manufacturer kept = kept
word_there w s Product kept = kept
word_there w s Revision kept = kept
word_there w s Serial kept = kept
word_there w s Subscriber kept = kept
word_there w s Capabilities kept = kept
word_there w s (Functionality n) kept = switched_there n w s kept (n == 1)
word_there w s FunctionalityQuery kept = kept
word_there w s FunctionalityForms kept = kept
word_there w s RegForms kept = kept
word_there w s (Report d n) kept = record { words = refl; there = record { defined = kept.there.defined; attached = kept.there.attached } }
word_there w s (ReportQuery d) kept = kept
word_there w s (ReportForms d) kept = kept
word_there w s (OperFormat n) kept = record { words = refl; there = record { defined = kept.there.defined; attached = kept.there.attached } }
word_there w s ContextForms kept = kept
word_there w s (Activate on which) kept = activated_there on which s kept
word_there w s ActivityQuery kept = kept
word_there w s ActivityForms kept = kept
word_there w s (Addresses which) kept = kept
word_there w s AddressForms kept = kept
word_there w s (Dial cid) kept = kept
word_there w s (SetCharset charset) kept = record { words = refl; there = record { defined = kept.there.defined; attached = kept.there.attached } }
word_there w s CharsetQuery kept = kept
word_there w s CharsetForms kept = kept
word_there w s LockForms kept = kept
word_there w s LockQuery kept = kept
word_there w s (Unlock right) kept = record { words = refl; there = record { defined = kept.there.defined; attached = kept.there.attached } }
word_there w s (Forms form) kept = kept
word_there w s ErrorsQuery kept = kept
word_there w s MultiplexerQuery kept = kept

ran_word_there : (o : Option ℕ) (w : Words) (r : Ran) (x : Word) → Keeps r.state → Keeps (ran_word o w r x).state
ran_word_there None w r x kept = word_there w r.state x kept
ran_word_there (Some number) w r x kept = refused_word w r.state x kept

-- ## Lines

other_there : (words : Option Words) (r : Ran) (word : Option Word) → Keeps r.state → Keeps (ran_other words r word).state
other_there None r word kept = kept
other_there (Some w) r None kept = kept
other_there (Some w) r (Some x) kept = ran_word_there (word_refusal w r.state x) w r x kept

text_there : (o : Option Command) (r : Ran) (text : List ℕ) → Keeps r.state → Keeps (ran_text o r text).state
text_there (Some c) r text kept = command_there (refusal_as r.state.words r.state c) r c kept
text_there None r text kept = other_there r.state.words r (word_of text) kept

next_there : (ended : Option (List ℕ)) (r : Ran) (text : List ℕ) → Keeps r.state → Keeps (ran_unless ended r text).state
next_there (Some code) r text kept = kept
next_there None r text kept = text_there (command_of text) r text kept

commands_there : (texts : List (List ℕ)) (r : Ran) → Keeps r.state → Keeps (fold ran_next r texts).state
commands_there [] r kept = kept
commands_there (text ∷ texts) r kept = commands_there texts (ran_next r text) (next_there r.ended r text kept)

line_there : (s : ModemState) (read : Option (List (List ℕ))) → Keeps s → Keeps (worded_by s read).state
line_there s None kept = kept
line_there s (Some texts) kept =
    let done = commands_there texts (nothing_ran s) kept in
    record { words = done.words; there = record { defined = done.there.defined; attached = done.there.attached } }

too_long_there : (s : ModemState) (read : Option (List (List ℕ))) → Keeps s → Keeps (refused_by s read).state
too_long_there s None kept = kept
too_long_there s (Some texts) kept = kept

worded_there : (s : ModemState) (line : List ℕ) (b : Bool) → Keeps s → Keeps (if b then refused_by s (line_commands line) else worded_by s (line_commands line)).state
worded_there s line true kept = too_long_there s (line_commands line) kept
worded_there s line false kept = line_there s (line_commands line) kept

-- lines that wait are another matter
own_there : (own : Option (List OwnLine)) (s : ModemState) (line : List ℕ) → Keeps s → Keeps (own_step own s line).state
own_there (Some lines) s line kept = record { words = kept.words; there = record { defined = kept.there.defined; attached = kept.there.attached } }
own_there None s line kept =
    let done = worded_there s line (is_too_long line) kept in
    record { words = done.words; there = record { defined = done.there.defined; attached = done.there.attached } }

step_there : (words : Option Words) (s : ModemState) (line : List ℕ) → is_some words ≡ true → Keeps s → Keeps (step_as words s line).state
step_there None s line some kept = cc
step_there (Some w) s line some kept = own_there (own_answer s line) s line kept

lines_there : (lines : List (List ℕ)) (s : ModemState) → Keeps s → Keeps (after_lines s lines)
lines_there [] s kept = kept
lines_there (line ∷ lines) s kept = lines_there lines (step s line).state (step_there s.words s line kept.words kept)

-- after whatever lines each active context of a modem with words is defined, and the modem is attached
pub keeps_active : KeepsActive
keeps_active start echo own lines =
    (lines_there lines _ (record { words = refl; there = record { defined = λ cid is. cc; attached = λ cid is. cc } })).there
