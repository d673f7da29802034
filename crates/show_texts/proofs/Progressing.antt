-- What is told of how much of a capture was read.
use Rattle.std.specs.Prelude.{◌≡◌, ℕ, ◌+◌, ◌-◌, ◌/◌, ◌<◌, ◌≤◌, ◌⊎◌, zero, suc, Bool, true, false, length, List, [], ◌++◌, Option, Some, None, IfSome, refl}
use Rattle.std.proofs.Common.{⊎_elim, ap, arith, sym, ◌∙◌, subst, append_assoc, append-nil, length-append, add_assoc}
use Rattle.std.proofs.KnownBytes.{Appends-nil, Appends-trans, Consumes-nil, Consumes-trans}
use Rattle.std.specs.Io.KnownBytes.{Appends, Consumes, IsAtEnd}
use Rattle.ctl_text.specs.Writing.{IsBegun}
use Rattle.ctl_text.proofs.Written.{begun_after, begun_first}
use Rattle.show_texts.specs.Progress.{Counts, CountsAll, CountsPart, CountsRead, HasTold, IsTold, ProgressState, TellsRead, TellsSteps, clear_text, progress_text, step, step_text, steps_text}
use Rattle.show_texts.specs.Captures.{fault_status}
use Rattle.show_texts.specs.declared.fault.ShowFault.{ShowFault as ShowFaultOf}
use Rattle.show_texts.specs.declared.fault.ShowFault.TheVariants as ShowFault

-- ## Steps

-- the texts of so many steps behind the first ones
abbrev steps_behind : (told count : ℕ) → List ℕ
steps_behind told zero = []
steps_behind told (suc k) = steps_behind told k ++ step_text (suc (told + k))

steps_are : (told count : ℕ) → steps_text (told + count) ≡ steps_text told ++ steps_behind told count
steps_are told zero =
    let same : told + 0 ≡ told = omega arith in
    ap steps_text same ∙ sym (append-nil (steps_text told))
steps_are told (suc k) =
    let next : told + suc k ≡ suc (told + k) = omega arith in
    ap steps_text next
    ∙ (ap (λ (l : List ℕ). l ++ step_text (suc (told + k))) (steps_are told k)
    ∙ append_assoc (steps_text told) (steps_behind told k) (step_text (suc (told + k))))

-- one step more
steps_next : (now : ℕ) → steps_text (now + 1) ≡ steps_text now ++ step_text (now + 1)
steps_next now =
    let next : suc now ≡ now + 1 = omega arith in
    subst (λ (n : ℕ). steps_text n ≡ steps_text now ++ step_text n) next refl

steps_up_to : (told steps : ℕ) → told ≤ steps → steps_text steps ≡ steps_text told ++ steps_behind told (steps - told)
steps_up_to told steps le =
    let e : steps ≡ told + (steps - told) = omega (arith, le) in
    ap steps_text e ∙ steps_are told (steps - told)

begun_none : (a : Option (List ℕ)) → IsBegun a a []
begun_none a = record { part = []; left = []; split = refl; appended = Appends-nil a }

-- behind the steps that are told no text stands yet
pub steps_none : (told : ℕ) (a : Option (List ℕ)) → TellsSteps told told a a true
steps_none told a = record {
  text = [];
  are = sym (append-nil (steps_text told));
  whole = λ _. Appends-nil a;
  begun = begun_none a;
}

-- and then that of the next step
pub steps_more : (told now : ℕ) (a b c : Option (List ℕ)) → TellsSteps told now a b true → Appends b c (step_text (now + 1)) → TellsSteps told (now + 1) a c true
steps_more told now a b c h p =
    let all : Appends a c (h.text ++ step_text (now + 1)) = Appends-trans a b c h.text (step_text (now + 1)) (h.whole refl) p in
    record {
      text = h.text ++ step_text (now + 1);
      are = steps_next now ∙ (ap (λ (l : List ℕ). l ++ step_text (now + 1)) h.are ∙ append_assoc (steps_text told) h.text (step_text (now + 1)));
      whole = λ _. all;
      begun = record { part = h.text ++ step_text (now + 1); left = []; split = sym (append-nil (h.text ++ step_text (now + 1))); appended = all };
    }

-- where the text of a step is cut off, a beginning of all those up to the last stands there
pub steps_cut : (told now steps : ℕ) (a b c : Option (List ℕ)) → TellsSteps told now a b true → now < steps → IsBegun b c (step_text (now + 1)) → TellsSteps told steps a c false
steps_cut told now steps a b c h le p =
    let behind = steps_behind (now + 1) (steps - (now + 1)) in
    let next : now + 1 ≤ steps = omega (arith, le) in
    record {
      text = h.text ++ step_text (now + 1) ++ behind;
      are =
          steps_up_to (now + 1) steps next
          ∙ (ap (λ (l : List ℕ). l ++ behind) (steps_next now)
          ∙ (ap (λ (l : List ℕ). l ++ step_text (now + 1) ++ behind) h.are
          ∙ (ap (λ (l : List ℕ). l ++ behind) (append_assoc (steps_text told) h.text (step_text (now + 1)))
          ∙ append_assoc (steps_text told) (h.text ++ step_text (now + 1)) behind)));
      whole = λ e. absurd (cc);
      begun = begun_first a c (h.text ++ step_text (now + 1)) behind (begun_after a b c h.text (step_text (now + 1)) (h.whole refl) p);
    }

-- ## Counting

not_both : (b : Bool) → b ≡ true → b ≡ false → ⊥
not_both true p q = cc
not_both false p q = cc

-- a beginning of what is told of fewer octets is one of what is told of more
begun_on : (a b : Option (List ℕ)) (n count : ℕ) → IsBegun a b (steps_text (n / step)) → IsBegun a b (steps_text ((n + count) / step))
begun_on a b n count h =
    let le : n / step ≤ (n + count) / step = omega arith in
    subst (λ (l : List ℕ). IsBegun a b l) (sym (steps_up_to (n / step) ((n + count) / step) le))
    (begun_first a b (steps_text (n / step)) (steps_behind (n / step) ((n + count) / step - n / step)) h)

-- where nothing is told any more, nothing has to be for more octets
pub counts_off : (old new : ProgressState) (count : ℕ) → new.is_on ≡ false → new.shown ≡ old.shown → Counts old new count
unfolding Counts
counts_off old new count off same before n h = record {
  read = λ on. absurd (not_both new.is_on on off);
  whole = λ on. absurd (not_both new.is_on on off);
  begun = subst (λ (o : Option (List ℕ)). IsBegun before o (steps_text ((n + count) / step))) (sym same) (begun_on before old.shown n count h.begun);
}

-- else octets are counted where the steps that they make whole are told
pub counts_on : (old new : ProgressState) (count : ℕ) → old.is_on ≡ true → new.read ≡ old.read + count
    → TellsSteps (old.read / step) (new.read / step) old.shown new.shown new.is_on → Counts old new count
unfolding Counts
counts_on old new count on read tells before n h =
    let same : old.read ≡ n = h.read on in
    let more : new.read ≡ n + count = read ∙ ap (λ (k : ℕ). k + count) same in
    let are : steps_text ((n + count) / step) ≡ steps_text (n / step) ++ tells.text =
    ap (λ (k : ℕ). steps_text (k / step)) (sym more) ∙ (tells.are ∙ ap (λ (k : ℕ). steps_text (k / step) ++ tells.text) same) in
    record {
      read = λ _. more;
      whole =
          λ e.
          subst (λ (l : List ℕ). Appends before new.shown l) (sym are)
          (Appends-trans before old.shown new.shown (steps_text (n / step)) tells.text (h.whole on) (tells.whole e));
      begun =
          subst (λ (l : List ℕ). IsBegun before new.shown l) (sym are)
          (begun_after before old.shown new.shown (steps_text (n / step)) tells.text (h.whole on) tells.begun);
    }

counts_none : (p : ProgressState) → Counts p p 0
unfolding Counts
counts_none p before n h = subst (λ (i : ℕ). IsTold before p i) (omega arith) h

counts_more : (a b c : ProgressState) (m n : ℕ) → Counts a b m → Counts b c n → Counts a c (m + n)
unfolding Counts
counts_more a b c m n p q before k h = subst (λ (i : ℕ). IsTold before c i) (add_assoc k m n) (q before (k + m) (p before k h))

-- ## The beginning and the end

-- before any octet was read nothing is told
pub begins : (p : ProgressState) (a : Option (List ℕ)) → p.shown ≡ a → (p.is_on ≡ true → p.read ≡ 0) → IsTold a p 0
begins p a same none = record {
  read = none;
  whole = λ _. subst (λ (o : Option (List ℕ)). Appends a o []) (sym same) (Appends-nil a);
  begun = subst (λ (o : Option (List ℕ)). IsBegun a o []) (sym same) (begun_none a);
}

none_whole : (n : ℕ) → n < step → progress_text n ≡ []
none_whole n le = let e : n / step ≡ 0 = omega (arith, le) in ap (λ (k : ℕ). steps_text k ++ clear_text k) e

one_whole : (k : ℕ) → 1 ≤ k → clear_text k ≡ clear_text 1
one_whole zero le = absurd (omega (arith, le))
one_whole (suc k) le = refl

-- where no step is whole there is nothing to clear
pub ends_same : (p : ProgressState) (before : Option (List ℕ)) (n : ℕ) → (p.is_on ≡ true → p.read < step) → IsTold before p n → HasTold before p n
ends_same p before n less h = record {
  whole =
      λ on.
      let few : n < step = subst (λ (k : ℕ). k < step) (h.read on) (less on) in
      let none : n / step ≡ 0 = omega (arith, few) in
      let told : Appends before p.shown [] = subst (λ (k : ℕ). Appends before p.shown (steps_text k)) none (h.whole on) in
      subst (λ (l : List ℕ). Appends before p.shown l) (sym (none_whole n few)) told;
  begun = begun_first before p.shown (steps_text (n / step)) (clear_text (n / step)) h.begun;
}

-- else the line is cleared, or a beginning of that stands there
pub ends_clear : (old new : ProgressState) (before : Option (List ℕ)) (n : ℕ) → old.is_on ≡ true → step ≤ old.read
    → (new.is_on ≡ true → Appends old.shown new.shown (clear_text 1)) → IsBegun old.shown new.shown (clear_text 1) → IsTold before old n → HasTold before new n
ends_clear old new before n on much whole begun h =
    let more : step ≤ n = subst (λ (k : ℕ). step ≤ k) (h.read on) much in
    let some : 1 ≤ n / step = omega (arith, more) in
    let are : progress_text n ≡ steps_text (n / step) ++ clear_text 1 = ap (λ (l : List ℕ). steps_text (n / step) ++ l) (one_whole (n / step) some) in
    record {
      whole =
          λ e.
          subst (λ (l : List ℕ). Appends before new.shown l) (sym are)
          (Appends-trans before old.shown new.shown (steps_text (n / step)) (clear_text 1) (h.whole on) (whole e));
      begun =
          subst (λ (l : List ℕ). IsBegun before new.shown l) (sym are)
          (begun_after before old.shown new.shown (steps_text (n / step)) (clear_text 1) (h.whole on) begun);
    }

-- ## An input

within : (input left : Option (List ℕ)) (octets : List ℕ) → Consumes input left octets → IfSome input (λ all. length octets ≤ length all)
within None left octets p = tt
within (Some all) None octets p = absurd p
within (Some all) (Some left) octets p = let e = ap length p ∙ length-append octets left in omega (arith, e)

at_end : (input left last : Option (List ℕ)) (octets : List ℕ) → Consumes input left octets → Consumes left last [] → IsAtEnd last → IfSome input (λ all. length octets ≡ length all)
at_end None left last octets p q e = tt
at_end (Some all) None last octets p q e = absurd p
at_end (Some all) (Some left) None octets p q e = absurd q
at_end (Some all) (Some left) (Some last) octets p q e =
    let none : left ≡ [] = q ∙ e in
    sym (ap length p ∙ ap (λ (l : List ℕ). length (octets ++ l)) none ∙ ap length (append-nil octets))

-- no octets were read yet
pub read_none_counted : (input : Option (List ℕ)) (p : ProgressState) → CountsRead input input p p
read_none_counted input p = record { octets = []; read = Consumes-nil input; counts = counts_none p }

-- and then some, which are counted
pub read_counted : (a b c : Option (List ℕ)) (old mid new : ProgressState) (octets : List ℕ) → CountsRead a b old mid → Consumes b c octets → Counts mid new (length octets) → CountsRead a c old new
read_counted a b c old mid new octets h r k = record {
  octets = h.octets ++ octets;
  read = Consumes-trans a b c h.octets octets h.read r;
  counts =
      subst (λ (i : ℕ). Counts old new i) (sym (length-append h.octets octets))
      (counts_more old mid new (length h.octets) (length octets) h.counts k);
}

-- no octets are counted yet
pub part_none : (input : Option (List ℕ)) (p : ProgressState) → CountsPart input p p
part_none None p = record { count = 0; within = tt; counts = counts_none p }
part_none (Some all) p = record { count = 0; within = omega arith; counts = counts_none p }

-- what was read and counted is no more than the input has
pub part_read : (input left : Option (List ℕ)) (old new : ProgressState) → CountsRead input left old new → CountsPart input old new
part_read input left old new h = record { count = length h.octets; within = within input left h.octets h.read; counts = h.counts }

-- and is all of it, where nothing more is to be read
pub all_read : (input left last : Option (List ℕ)) (old new : ProgressState) → CountsRead input left old new → Consumes left last [] → IsAtEnd last → CountsAll input old new
all_read input left last old new h r e = record { count = length h.octets; all = at_end input left last h.octets h.read r e; counts = h.counts }

more_within : (input left : Option (List ℕ)) (octets : List ℕ) (n : ℕ) → Consumes input left octets → IfSome left (λ all. n ≤ length all) → IfSome input (λ all. length octets + n ≤ length all)
more_within None left octets n p q = tt
more_within (Some all) None octets n p q = absurd p
more_within (Some all) (Some left) octets n p q = let e = ap length p ∙ length-append octets left in omega (arith, e, q)

more_all : (input left : Option (List ℕ)) (octets : List ℕ) (n : ℕ) → Consumes input left octets → IfSome left (λ all. n ≡ length all) → IfSome input (λ all. length octets + n ≡ length all)
more_all None left octets n p q = tt
more_all (Some all) None octets n p q = absurd p
more_all (Some all) (Some left) octets n p q = let e = ap length p ∙ length-append octets left in omega (arith, e, q)

-- with octets that were read before, it is still no more than the input has
pub part_behind : (input left : Option (List ℕ)) (old mid new : ProgressState) (octets : List ℕ) → Consumes input left octets → Counts old mid (length octets) → CountsPart left mid new → CountsPart input old new
part_behind input left old mid new octets r k h = record {
  count = length octets + h.count;
  within = more_within input left octets h.count r h.within;
  counts = counts_more old mid new (length octets) h.count k h.counts;
}

-- or all of it
pub all_behind : (input left : Option (List ℕ)) (old mid new : ProgressState) (octets : List ℕ) → Consumes input left octets → Counts old mid (length octets) → CountsAll left mid new → CountsAll input old new
all_behind input left old mid new octets r k h = record {
  count = length octets + h.count;
  all = more_all input left octets h.count r h.all;
  counts = counts_more old mid new (length octets) h.count k h.counts;
}

all_within : (input : Option (List ℕ)) (n : ℕ) → IfSome input (λ all. n ≡ length all) → IfSome input (λ all. n ≤ length all)
all_within None n e = tt
all_within (Some all) n e = omega (arith, e)

-- all of it is no more than it has
pub part_all : (input : Option (List ℕ)) (old new : ProgressState) → CountsAll input old new → CountsPart input old new
part_all input old new h = record { count = h.count; within = all_within input h.count h.all; counts = h.counts }

-- no more octets are told than an input has, where its status says that it isn't shown to its end
pub tells_part : (input before : Option (List ℕ)) (old now new : ProgressState) (status : ℕ) → IsTold before old 0 → CountsPart input old now
    → ((a : Option (List ℕ)) (n : ℕ) → IsTold a now n → HasTold a new n) → ((status ≡ 0) ⊎ (status ≡ 3) → ⊥) → TellsRead input before new status
unfolding Counts
tells_part input before old now new status begun h end bad = record {
  count = h.count;
  within = h.within;
  all = λ good. absurd (bad good);
  told = end before h.count (subst (λ (n : ℕ). IsTold before now n) (omega arith) (h.counts before 0 begun));
}

-- and all are told where all were counted, whatever the status
pub tells_all : (input before : Option (List ℕ)) (old now new : ProgressState) (status : ℕ) → IsTold before old 0 → CountsAll input old now
    → ((a : Option (List ℕ)) (n : ℕ) → IsTold a now n → HasTold a new n) → TellsRead input before new status
unfolding Counts
tells_all input before old now new status begun h end = record {
  count = h.count;
  within = all_within input h.count h.all;
  all = λ _. h.all;
  told = end before h.count (subst (λ (n : ℕ). IsTold before now n) (omega arith) (h.counts before 0 begun));
}

-- the status of a fault isn't one of a capture that is shown to its end
pub not_good : (fault : ShowFaultOf) (status : ℕ) → status ≡ fault_status fault → (status ≡ 0) ⊎ (status ≡ 3) → ⊥
not_good ShowFault.NoMemory status e good = ⊎_elim (λ (zero : status ≡ 0). omega (arith, e, zero)) (λ (three : status ≡ 3). omega (arith, e, three)) good
not_good ShowFault.Input status e good = ⊎_elim (λ (zero : status ≡ 0). omega (arith, e, zero)) (λ (three : status ≡ 3). omega (arith, e, three)) good
not_good ShowFault.CutShort status e good = ⊎_elim (λ (zero : status ≡ 0). omega (arith, e, zero)) (λ (three : status ≡ 3). omega (arith, e, three)) good
not_good ShowFault.BadPacket status e good = ⊎_elim (λ (zero : status ≡ 0). omega (arith, e, zero)) (λ (three : status ≡ 3). omega (arith, e, three)) good
not_good ShowFault.Endless status e good = ⊎_elim (λ (zero : status ≡ 0). omega (arith, e, zero)) (λ (three : status ≡ 3). omega (arith, e, three)) good
not_good ShowFault.Output status e good = ⊎_elim (λ (zero : status ≡ 0). omega (arith, e, zero)) (λ (three : status ≡ 3). omega (arith, e, three)) good
not_good ShowFault.NoCapture status e good = ⊎_elim (λ (zero : status ≡ 0). omega (arith, e, zero)) (λ (three : status ≡ 3). omega (arith, e, three)) good
