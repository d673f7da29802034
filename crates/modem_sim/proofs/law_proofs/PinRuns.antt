-- What PINs make of a modem.
use Rattle.std.specs.Prelude.{◌≡◌, ◌≢◌, ℕ, zero, suc, ◌+◌, ◌<◌, ◌≤◌, Bool, true, false, List, [], ◌∷◌, ◌++◌, map, Option, Some, None, Ok, IsErr, refl, if◌then◌else◌}
use Rattle.std.specs.Str.{bytes_eq}
use Rattle.std.proofs.Common.{arith, sym, ap, ◌∙◌, subst}
use Rattle.std.proofs.lemmas.Slice.Eq.{bytes_eq-Decides}
use Rattle.at_cmds.specs.declared.command.Command.{Command}
use Rattle.at_cmds.specs.declared.command.Command.TheVariants.{PinQuery, PinEnter, RegReport, OperQuery, OperChoose, ContextSet, ContextQuery, AttachSet, AttachQuery, ErrorMode}
use Rattle.at_cmds.specs.declared.command.OperChoice.TheVariants.{Automatic, Deregister, Manual}
use Rattle.at_cmds.specs.declared.reply.PinState.TheVariants as state
use Rattle.at_cmds.specs.declared.reply.Reply.TheVariants.{Attached, Contexts, Pin}
use Rattle.at_cmds.specs.Commands.{IsTextOf}
use Rattle.modem_sim.specs.declared.modem.ModemStart.{ModemStart}
use Rattle.modem_sim.specs.declared.state.Lock.{Lock}
use Rattle.modem_sim.specs.declared.state.Lock.TheVariants.{Ready, NeedPin, NeedPuk}
use Rattle.modem_sim.specs.declared.state.ModemState.{ModemState}
use Rattle.modem_sim.specs.Steps.{after_wrong_pin, attach_error, is_registered, lock_error, locked_by, obeyed_unless, pin_error, refusal_of, started}
use Rattle.modem_sim.specs.LineSteps.{step}
use Rattle.modem_sim.specs.Meanings.{meant, meant_unless, oper_reply, told_context, wanted_pin}
use Rattle.modem_sim.specs.Laws.{IsStart, reached}
use Rattle.modem_sim.specs.PinLaws.{ChangesNothingBefore, IsReadyAlways, KeepsPin, Locks, Opens, RefusesBefore, WantsPin, WrongTries, changes_network, no_line, no_try, tells_network, unlocked_start, wrong_try}
use Rattle.modem_sim.proofs.law_proofs.StateRuns.{after_append, answered_is, by_line, by_lines, command_step, stays_ready, tells}
use Rattle.modem_sim.proofs.modem_steps.StandardModems.{no_words, step_words}

-- ## The lock

-- 12 SIM PUK required, 16 incorrect password
abbrev puk_required : ℕ
puk_required = 12

abbrev incorrect : ℕ
incorrect = 16

-- after so many wrong tries: the tries that are left, or locked
abbrev lock_after : List ℕ → ℕ → Lock
lock_after pin zero = NeedPin pin 3
lock_after pin (suc zero) = NeedPin pin 2
lock_after pin (suc (suc zero)) = NeedPin pin 1
lock_after pin (suc (suc (suc n))) = NeedPuk

one_wrong : (pin : List ℕ) (n : ℕ) → after_wrong_pin (lock_after pin n) ≡ lock_after pin (n + 1)
one_wrong pin zero = refl
one_wrong pin (suc zero) = refl
one_wrong pin (suc (suc zero)) = refl
one_wrong pin (suc (suc (suc n))) =
    let next : suc (suc (suc n)) + 1 ≡ suc (suc (suc (suc n))) = omega arith in
    ap (lock_after pin) (sym next)

-- a wrong PIN is refused, with some number
refuses_pin : (pin entered : List ℕ) (n : ℕ) → entered ≢ pin → pin_error (lock_after pin n) entered ≢ None
refuses_pin pin entered n other = by_count n
  where
    not_equal : (b : Bool) → bytes_eq pin entered ≡ b → (if b then None else Some incorrect) ≢ None
    not_equal true is none = other (sym ((bytes_eq-Decides pin entered).0 is))
    not_equal false is none = cc

    by_count : (n : ℕ) → pin_error (lock_after pin n) entered ≢ None
    by_count zero = not_equal (bytes_eq pin entered) refl
    by_count (suc zero) = not_equal (bytes_eq pin entered) refl
    by_count (suc (suc zero)) = not_equal (bytes_eq pin entered) refl
    by_count (suc (suc (suc n))) = λ none. cc

refused_pin : (o : Option ℕ) (s : ModemState) (entered : List ℕ) → o ≢ None → (obeyed_unless o s (PinEnter entered)).state.lock ≡ after_wrong_pin s.lock
refused_pin None s entered some = absurd (some refl)
refused_pin (Some number) s entered some = refl

-- no other command touches the lock
same_lock : (o : Option ℕ) (s : ModemState) (c : Command) → ((pin : List ℕ) → c ≢ PinEnter pin) → (obeyed_unless o s c).state.lock ≡ s.lock
same_lock o s (PinEnter pin) other = absurd (other pin refl)
same_lock (Some number) s c other = refl
same_lock None s (OperChoose Automatic) other = refl
same_lock None s (OperChoose Deregister) other = refl
same_lock None s (OperChoose (Manual oper)) other = refl
same_lock None s c other = refl

line_behind : (start : ModemStart) (lines : List (List ℕ)) (line : List ℕ) → reached start (lines ++ line ∷ []) ≡ (step (reached start lines) line).state
line_behind start lines line = after_append (started start) lines (line ∷ [])

lock_is : (start : ModemStart) (pin : List ℕ) (lines : List (List ℕ)) (n : ℕ) → start.pin ≡ Some pin → WrongTries pin lines n → (reached start lines).lock ≡ lock_after pin n
lock_is start pin _ _ has no_line = ap locked_by has
lock_is start pin _ _ has (wrong_try entered line lines n tries is other) =
    let s = reached start lines in
    let before = lock_is start pin lines n has tries in
    let Refused : Lock → Type 0 = λ l. pin_error l entered ≢ None in
    ap (λ t. t.lock) (line_behind start lines line)
    ∙ ap (λ t. t.state.lock) (command_step s line (PinEnter entered) (no_words start lines) is)
    ∙ refused_pin (pin_error s.lock entered) s entered (subst Refused (sym before) (refuses_pin pin entered n other))
    ∙ ap after_wrong_pin before ∙ one_wrong pin n
lock_is start pin _ _ has (no_try line lines n tries other) =
    let s = reached start lines in
    ap (λ t. t.lock) (line_behind start lines line)
    ∙ by_line (λ t. t.lock ≡ s.lock) s line (no_words start lines) refl (λ c is. same_lock (refusal_of s c) s c (λ entered same. let Text : Command → Type 0 = λ d. IsTextOf line d in other entered (subst Text same is)))
    ∙ lock_is start pin lines n has tries

wants_at : (pin : List ℕ) (n : ℕ) → n < 3 → wanted_pin (lock_after pin n) ≡ state.SimPin
wants_at pin zero few = refl
wants_at pin (suc zero) few = refl
wants_at pin (suc (suc zero)) few = refl
wants_at pin (suc (suc (suc n))) few = absurd (omega (arith, few))

locked_at : (pin : List ℕ) (n : ℕ) → 3 ≤ n → lock_after pin n ≡ NeedPuk
locked_at pin zero many = absurd (omega (arith, many))
locked_at pin (suc zero) many = absurd (omega (arith, many))
locked_at pin (suc (suc zero)) many = absurd (omega (arith, many))
locked_at pin (suc (suc (suc n))) many = refl

-- a locked modem stays so
obeyed_locked : (o : Option ℕ) (s : ModemState) (c : Command) → o ≡ refusal_of s c → s.lock ≡ NeedPuk → (obeyed_unless o s c).state.lock ≡ NeedPuk
obeyed_locked None s (PinEnter pin) is lock = absurd (some_error (is ∙ ap (λ l. pin_error l pin) lock))
  where
    some_error : None ≡ Some puk_required → ⊥
    some_error same = cc
obeyed_locked (Some number) s (PinEnter pin) is lock = ap after_wrong_pin lock
obeyed_locked o s c is lock = same_lock o s c (λ pin same. cc) ∙ lock

-- the right PIN opens it
opened_by : (pin : List ℕ) (n : ℕ) → n < 3 → pin_error (lock_after pin n) pin ≡ None
opened_by pin n few = by_count n few
  where
    same : (if bytes_eq pin pin then None else Some incorrect) ≡ None
    same = ap (λ (b : Bool). if b then None else Some incorrect) ((bytes_eq-Decides pin pin).1 refl)

    by_count : (n : ℕ) → n < 3 → pin_error (lock_after pin n) pin ≡ None
    by_count zero few = same
    by_count (suc zero) few = same
    by_count (suc (suc zero)) few = same
    by_count (suc (suc (suc n))) few = absurd (omega (arith, few))

opens_state : (start : ModemStart) (pin : List ℕ) (lines : List (List ℕ)) (line : List ℕ) (n : ℕ) → start.pin ≡ Some pin → WrongTries pin lines n → n < 3 → IsTextOf line (PinEnter pin) → (step (reached start lines) line).state ≡ record (reached start lines) { lock = Ready }
opens_state start pin lines line n has tries few is =
    let s = reached start lines in
    let none = ap (λ l. pin_error l pin) (lock_is start pin lines n has tries) ∙ opened_by pin n few in
    ap (λ t. t.state) (command_step s line (PinEnter pin) (no_words start lines) is) ∙ ap (λ o. (obeyed_unless o s (PinEnter pin)).state) none

wants : (start : ModemStart) (pin : List ℕ) → IsStart start → start.pin ≡ Some pin → WantsPin start pin
wants start pin is has lines n tries few =
    tells start lines PinQuery (λ r. r ≡ Ok (Pin state.SimPin)) is
    (ap (λ l. Ok (Pin (wanted_pin l))) (lock_is start pin lines n has tries) ∙ ap (λ p. Ok (Pin p)) (wants_at pin n few))

locks : (start : ModemStart) (pin : List ℕ) → IsStart start → start.pin ≡ Some pin → Locks start pin
locks start pin is has lines later n tries many =
    let s = reached start lines in
    let locked = lock_is start pin lines n has tries ∙ locked_at pin n many in
    let still = by_lines (λ t. t.lock ≡ NeedPuk) (λ t c lock. obeyed_locked (refusal_of t c) t c refl lock) s later (no_words start lines) locked in
    tells start (lines ++ later) PinQuery (λ r. r ≡ Ok (Pin state.SimPuk)) is
    (ap (λ t. Ok (Pin (wanted_pin t.lock))) (after_append (started start) lines later) ∙ ap (λ l. Ok (Pin (wanted_pin l))) still)

opens : (start : ModemStart) (pin : List ℕ) → IsStart start → start.pin ≡ Some pin → Opens start pin
opens start pin is has lines later line n tries few text =
    let s = reached start lines in
    let opened = opens_state start pin lines line n has tries few text in
    let still = stays_ready (step s line).state later (step_words s line (no_words start lines)) (ap (λ t. t.lock) opened) in
    tells start (lines ++ line ∷ later) PinQuery (λ r. r ≡ Ok (Pin state.Ready)) is
    (ap (λ t. Ok (Pin (wanted_pin t.lock))) (after_append (started start) lines (line ∷ later)) ∙ ap (λ l. Ok (Pin (wanted_pin l))) still)

-- ## Before it is ready

not_ready : (pin : List ℕ) (n : ℕ) → lock_error (lock_after pin n) ≢ None
not_ready pin zero none = cc
not_ready pin (suc zero) none = cc
not_ready pin (suc (suc zero)) none = cc
not_ready pin (suc (suc (suc n))) none = cc

is_refused : (o : Option ℕ) (s : ModemState) (c : Command) → o ≢ None → IsErr (meant_unless o s c)
is_refused None s c some = absurd (some refl)
is_refused (Some number) s c some = refl

may_attach : (o : Option ℕ) (registered : Bool) → o ≢ None → attach_error o registered ≢ None
may_attach None registered some = absurd (some refl)
may_attach (Some number) registered some = λ none. cc

refuses_at : (s : ModemState) (c : Command) → lock_error s.lock ≢ None → changes_network c ≡ true → IsErr (meant s c)
refuses_at s (OperChoose choice) some is = is_refused (lock_error s.lock) s (OperChoose choice) some
refuses_at s (ContextSet cid pdp apn) some is = is_refused (lock_error s.lock) s (ContextSet cid pdp apn) some
refuses_at s (AttachSet true) some is = is_refused (attach_error (lock_error s.lock) (is_registered s.lock s.oper)) s (AttachSet true) (may_attach (lock_error s.lock) (is_registered s.lock s.oper) some)
refuses_at s (AttachSet false) some is = is_refused (lock_error s.lock) s (AttachSet false) some
refuses_at s c some is = cc

some_error : (start : ModemStart) (pin : List ℕ) (lines : List (List ℕ)) (n : ℕ) → start.pin ≡ Some pin → WrongTries pin lines n → lock_error (reached start lines).lock ≢ None
some_error start pin lines n has tries =
    let Some_error : Lock → Type 0 = λ l. lock_error l ≢ None in
    subst Some_error (sym (lock_is start pin lines n has tries)) (not_ready pin n)

refuses : (start : ModemStart) (pin : List ℕ) → IsStart start → start.pin ≡ Some pin → RefusesBefore start pin
refuses start pin is has lines n c tries changes =
    tells start lines c IsErr is (refuses_at (reached start lines) c (some_error start pin lines n has tries) changes)

-- nothing of the network is set
record IsFresh (s : ModemState) : Type 0 where
  oper : s.oper ≡ Automatic
  contexts : s.contexts ≡ []
  attached : s.attached ≡ false

fresh_again : (s t : ModemState) → IsFresh s → t.oper ≡ s.oper → t.contexts ≡ s.contexts → t.attached ≡ s.attached → IsFresh t
fresh_again s t fresh oper contexts attached = record { oper = oper ∙ fresh.oper; contexts = contexts ∙ fresh.contexts; attached = attached ∙ fresh.attached }

obeyed_fresh : (o : Option ℕ) (s : ModemState) (c : Command) → o ≡ refusal_of s c → lock_error s.lock ≢ None → IsFresh s → IsFresh (obeyed_unless o s c).state
obeyed_fresh (Some number) s (PinEnter pin) is some fresh = fresh_again s _ fresh refl refl refl
obeyed_fresh (Some number) s c is some fresh = fresh
obeyed_fresh None s (PinEnter pin) is some fresh = fresh_again s _ fresh refl refl refl
obeyed_fresh None s (RegReport n) is some fresh = fresh_again s _ fresh refl refl refl
obeyed_fresh None s (OperChoose choice) is some fresh = absurd (some (sym is))
obeyed_fresh None s (ContextSet cid pdp apn) is some fresh = absurd (some (sym is))
obeyed_fresh None s (AttachSet true) is some fresh = absurd (may_attach (lock_error s.lock) (is_registered s.lock s.oper) some (sym is))
obeyed_fresh None s (AttachSet false) is some fresh = absurd (some (sym is))
obeyed_fresh None s (ErrorMode n) is some fresh = fresh_again s _ fresh refl refl refl
obeyed_fresh None s c is some fresh = fresh

stays_fresh : (start : ModemStart) (pin : List ℕ) (lines : List (List ℕ)) (n : ℕ) → start.pin ≡ Some pin → WrongTries pin lines n → IsFresh (reached start lines)
stays_fresh start pin _ _ has no_line = record { oper = refl; contexts = refl; attached = refl }
stays_fresh start pin _ _ has (wrong_try entered line lines n tries is other) =
    let s = reached start lines in
    subst IsFresh (sym (line_behind start lines line))
    (by_line IsFresh s line (no_words start lines) (stays_fresh start pin lines n has tries) (λ c text. obeyed_fresh (refusal_of s c) s c refl (some_error start pin lines n has tries) (stays_fresh start pin lines n has tries)))
stays_fresh start pin _ _ has (no_try line lines n tries other) =
    let s = reached start lines in
    subst IsFresh (sym (line_behind start lines line))
    (by_line IsFresh s line (no_words start lines) (stays_fresh start pin lines n has tries) (λ c text. obeyed_fresh (refusal_of s c) s c refl (some_error start pin lines n has tries) (stays_fresh start pin lines n has tries)))

same_told : (s t : ModemState) (c : Command) → tells_network c ≡ true → IsFresh s → IsFresh t → t.lock ≡ Ready → meant (record s { lock = Ready }) c ≡ meant t c
same_told s t OperQuery is fresh other ready =
    ap (λ o. Ok (oper_reply o)) (fresh.oper ∙ sym other.oper) ∙ sym (ap (λ l. meant_unless (lock_error l) t OperQuery) ready)
same_told s t ContextQuery is fresh other ready =
    ap (λ cs. Ok (Contexts (map told_context cs))) (fresh.contexts ∙ sym other.contexts) ∙ sym (ap (λ l. meant_unless (lock_error l) t ContextQuery) ready)
same_told s t AttachQuery is fresh other ready =
    ap (λ b. Ok (Attached b)) (fresh.attached ∙ sym other.attached) ∙ sym (ap (λ l. meant_unless (lock_error l) t AttachQuery) ready)
same_told s t c is fresh other ready = cc

changes_nothing : (start : ModemStart) (pin : List ℕ) → IsStart start → start.pin ≡ Some pin → ChangesNothingBefore start pin
changes_nothing start pin is has lines line n c tries few text told ask asks =
    let bare = unlocked_start start in
    let bare_is : IsStart bare = record { rssi = is.rssi; ber = is.ber } in
    let opened = line_behind start lines line ∙ opens_state start pin lines line n has tries few text in
    answered_is start (lines ++ line ∷ []) c ask is asks
    ∙ ap (λ s. meant s c) opened
    ∙ same_told (reached start lines) (reached bare []) c told (stays_fresh start pin lines n has tries) (record { oper = refl; contexts = refl; attached = refl }) refl
    ∙ sym (answered_is bare [] c ask bare_is asks)

-- a modem with a PIN wants it, opens by it, is locked by three wrong tries, and changes nothing of the network before
pub keeps_pin : (start : ModemStart) (pin : List ℕ) → IsStart start → start.pin ≡ Some pin → KeepsPin start pin
keeps_pin start pin is has = record {
  wants = wants start pin is has;
  locks = locks start pin is has;
  opens = opens start pin is has;
  refuses = refuses start pin is has;
  changes_nothing = changes_nothing start pin is has;
}

-- a modem without a PIN is ready after whatever lines
pub ready_always : (start : ModemStart) → IsStart start → start.pin ≡ None → IsReadyAlways start
ready_always start is none lines =
    tells start lines PinQuery (λ r. r ≡ Ok (Pin state.Ready)) is
    (ap (λ l. Ok (Pin (wanted_pin l))) (stays_ready (started start) lines refl (ap locked_by none)))
