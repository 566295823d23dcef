-- One step keeps log and machine those of the trace's first events.
use Rattle.std.proofs.Common.{◌≡◌, ℕ, ◌<◌, ◌+◌, List, [], ◌∷◌, ◌++◌, length, get_or, take}
use Rattle.std.proofs.Common.{replicate, refl, sym, ap, ◌∙◌, subst, Option, Some, arith}
use Rattle.std.specs.Prelude.{slice_get}
use Rattle.std.proofs.lemmas.List.{take_more, take_at, length-append, get_or_default}
use Rattle.std.proofs.lemmas.List.Elements.{All-nil, All-push, All-take}
use Rattle.std.proofs.lemmas.Option.{slice_get-get_or}
use Rattle.trails.specs.declared.step.Answer.{Answer}
use Rattle.trails.specs.declared.step.Step.{Step}
use Rattle.trails.specs.declared.event.Event.{Event}
use Rattle.trails.specs.declared.event.Event.TheVariants.{Store, Msr, Settle, Isb, Tlbi, Dsb, Deliver, Access, Prefetch}
use Rattle.table_reads.specs.Memory.{Memory}
use Rattle.trace_lang.specs.declared.header.Size.{Size}
use Rattle.trace_lang.specs.declared.header.Policy.{Policy}
use Rattle.sysregs.proofs.Accepted.{accepted_by_msr}
use Rattle.trace_lang.specs.Traces.{Parts, IsTrace, EventFits, EventFitsBy, core_of}
use Rattle.phys_mem.specs.Memory.{zeros as words_at_first}
use Rattle.phys_mem.specs.Words.{Held, memory_of}
use Rattle.machine_spec.specs.Header.{Header}
use Rattle.machine_spec.specs.Moments.{zeros, stored}
use Rattle.machine_spec.specs.Allowed.{IsAllowed}
use Rattle.machine_spec.specs.Machine.{Core, World, no_core, moved, opened, after_event, world_after, answer_to, step_of, run_of}
use Rattle.machine_laws.specs.Headline.{AreOfCores, RunsAreAllowed}
use Rattle.machine_laws.proofs.Events.{each_at, each_length}
use Rattle.machine_laws.proofs.Logs.{get-last}
use Rattle.machine_laws.proofs.Theorem.{world_on, run_on}
use Rattle.machine.specs.Seats.{SeatState, no_seat, IsSeatOf, AreSeatsOf, world_with, AreMoved, CanAnswer}
use Rattle.served_walk.specs.CanServe.{AreServable, RowsCanServe}
use Rattle.made_rows.specs.Small.{RowsAreSmall}
use Rattle.machine.specs.Events.{IsDoable}
use Rattle.trails.specs.Printed.{HasTextInRun}
use Rattle.machine.specs.Runs.{MachineState, IsMachineOf, IsRun, log_at}
use Rattle.machine.proofs.Ranges.{has_word, same_zeros}

-- AN EVENT OF A TRACE

doable_by : (h : Header) (p : Held) → p.ranges ≡ h.ranges → (e : Event) → EventFitsBy h e → IsDoable (memory_of p) e
doable_by h p same (Store core pa value) f = (f.0, has_word p pa (rw same f.1))
doable_by h p same (Msr core reg value) f = accepted_by_msr reg value f
doable_by h p same (Settle core) f = f
doable_by h p same (Isb core) f = f
doable_by h p same (Tlbi core from op shared operand) f = tt
doable_by h p same (Dsb core kind) f = f
doable_by h p same (Deliver core) f = f
doable_by h p same (Access core access) f = f
doable_by h p same (Prefetch core access) f = tt

module _ (t : Parts) (limits : IsTrace t) (k : ℕ) (lt : k < length t.events) (e : Event) (at : e ≡ get_or t.events k e) where
  fits : EventFits t.header e
  fits = subst (EventFits t.header) (sym at) (limits.each k e lt)

  pub here : (seats : List SeatState) → length seats ≡ t.header.cores → core_of e < length seats
  here seats count = subst (λ n. core_of e < n) (sym count) fits.0

  pub doable : (p : Held) → p.ranges ≡ t.header.ranges → IsDoable (memory_of p) e
  doable p same = doable_by t.header p same e fits.1

pub all_of_cores : (t : Parts) → IsTrace t → AreOfCores t.header t.events
all_of_cores t limits = λ i d lt. (limits.each i d lt).0

-- a machine before its end has an event left
pub is_left : (s v : MachineState) (k : ℕ) → s ≡ v → length v.log < length v.trace.events → k ≡ length s.log → k < length s.trace.events
is_left s v k e lt n =
    let left : length s.log < length s.trace.events = subst (λ (x : MachineState). length x.log < length x.trace.events) (sym e) lt in
    omega (arith, left, n)

-- the next event, where a body names the trace's events by another, equal term
pub next_is : (t : Parts) (k : ℕ) (events : List Event) (d : Event) → events ≡ t.events → k < length t.events
    → get_or events k d ≡ get_or t.events k (get_or events k d)
next_is t k events d same lt = ap (λ l. get_or l k d) same ∙ get_or_default t.events k d (get_or events k d) lt

-- THE MACHINE AT FIRST

run_at_first : (t : Parts) (p : Held) (seats : List SeatState) → zeros t.header.ranges ≡ memory_of p → AreSeatsOf t.header (opened t.header).cores seats
    → IsRun (record { trace = t; log = []; phys = p; seats = seats })
run_at_first t p seats m are = record {
  within = omega arith;
  log_is = refl;
  machine = record { step = refl; memory = m; seats = are };
  texts = All-nil (λ (s : Step). HasTextInRun s.answer);
}

-- the same where a body names the parts by other, equal terms
pub opens : (t : Parts) (p : Held) (seats : List SeatState) (log : List Step) (ranges : List (ℕ × ℕ)) (cores : ℕ) (size : Size) (policy : Policy)
    → log ≡ []
    → ranges ≡ t.header.ranges → cores ≡ t.header.cores → size ≡ t.header.size → policy ≡ t.header.policy
    → memory_of p ≡ words_at_first ranges
    → ((h : Header) → h.size ≡ size → h.policy ≡ policy → AreSeatsOf h (replicate cores no_core) seats)
    → IsRun (record { trace = t; log = log; phys = p; seats = seats })
opens t p seats log ranges cores size policy el er ec es ep memory each =
    subst (λ (l : List Step). IsRun (record { trace = t; log = l; phys = p; seats = seats })) (sym el)
    (run_at_first t p seats (sym (memory ∙ same_zeros ranges ∙ ap zeros er))
    (subst (λ n. AreSeatsOf t.header (replicate n no_core) seats) ec (each t.header (sym es) (sym ep))))

-- A STEP

-- what a body knows after one event
pub record Did (t : Parts) (p : Held) (seats : List SeatState) (k : ℕ) (e : Event) (a : Option Answer) (next : Held) (after : List SeatState) : Type 0 where
  pub lt : k < length t.events
  pub at : e ≡ get_or t.events k e
  pub memory : memory_of next ≡ stored (memory_of p) e
  pub answer : (h : Header) → (cores : List Core) → AreSeatsOf h cores seats → CanAnswer k cores
      → a ≡ answer_to h (world_with k (memory_of p) cores) e
  pub len : length after ≡ length seats
  pub cores : (h : Header) → (cores : List Core) → AreSeatsOf h cores seats → CanAnswer k cores → AreMoved h (world_with k (memory_of p) cores) e after
  pub text : (h : Header) → (cores : List Core) → AreSeatsOf h cores seats → CanAnswer k cores → HasTextInRun a

-- a machine in the middle of a trace
abbrev pub state_of : (t : Parts) (log : List Step) (p : Held) (seats : List SeatState) → MachineState
state_of t log p seats = record { trace = t; log = log; phys = p; seats = seats }

-- what a step ensures
pub record Goes (t : Parts) (log : List Step) (next : Held) (after : List SeatState) (s : Step) : Type 0 where
  pub event : slice_get t.events (length log) ≡ Some s.event
  pub allowed : IsAllowed t.header log s
  pub kept : IsRun (state_of t (log ++ s ∷ []) next after)

-- the seats behind an event are those of the machine behind it
moved_all : (h : Header) (w : World) (e : Event) (seats after : List SeatState) → AreSeatsOf h w.cores seats → length after ≡ length seats
    → AreMoved h w e after → AreSeatsOf h (after_event h w e).cores after
moved_all h w e seats after are n moved_seats =
    let change = moved h w e in
    record {
      count = n ∙ are.count ∙ sym (each_length change 0 w.cores);
      each = λ c lt.
          let m = are.count in
          subst (λ (v : Core). IsSeatOf h c v (get_or after c no_seat)) (sym (each_at change w.cores c no_core (omega (arith, lt, n, m)))) (moved_seats c lt);
    }

-- what holds over every run: its steps are allowed, and the rows of its cores can serve and are small
pub record Laws : Type 0 where
  pub allowed : RunsAreAllowed
  pub serve : RowsCanServe
  pub small : RowsAreSmall

module _ (laws : Laws) (t : Parts) (p : Held) (seats : List SeatState) (log : List Step) (limits : IsTrace t)
    (count : length seats ≡ t.header.cores) (run : IsRun (state_of t log p seats))
    (e : Event) (a : Option Answer) (next : Held) (after : List SeatState) (did : Did t p seats (length log) e a next after) where
  abbrev h : Header
  h = t.header

  abbrev front : List Event
  front = take (length log) t.events

  -- the machine before the step
  abbrev w : World
  w = world_after h front

  abbrev done : Step
  done = record { event = e; answer = a }

  world_is : world_with (length log) (memory_of p) w.cores ≡ w
  world_is =
      ap (λ (k : ℕ). world_with k (memory_of p) w.cores) (sym run.machine.step) ∙ ap (λ (m : Memory). world_with w.step m w.cores)
      (sym run.machine.memory)

  -- the rows of its cores can serve
  can : CanAnswer (length log) w.cores
  can c lt =
      let front_of : AreOfCores h front = All-take (λ x. core_of x < h.cores) (length log) t.events (all_of_cores t limits) in
      let within : c < h.cores = (let n = run.machine.seats.count in omega (arith, lt, n, count)) in record {
        small = laws.small h front front_of c within;
        servable = subst (λ k. AreServable k (get_or w.cores c no_core).cache.rows) run.machine.step (laws.serve h front front_of c within);
      }

  is_step : done ≡ step_of h w e
  is_step = ap (λ (x : Option Answer). record { event = e; answer = x }) (did.answer h w.cores run.machine.seats can) ∙ ap (λ x. step_of h x e) world_is

  more : take (length log + 1) t.events ≡ front ++ e ∷ []
  more = take_more t.events (length log) e did.lt ∙ ap (λ x. front ++ x ∷ []) (sym did.at)

  run_next : log ++ done ∷ [] ≡ run_of h (front ++ e ∷ [])
  run_next = ap (λ (x : Step). log ++ x ∷ []) is_step ∙ ap (λ l. l ++ step_of h w e ∷ []) run.log_is ∙ sym (run_on h front e)

  one : length (log ++ done ∷ []) ≡ length log + 1
  one = length-append log (done ∷ [])

  moved_on : AreMoved h w e after
  moved_on = subst (λ (x : World). AreMoved h x e after) world_is (did.cores h w.cores run.machine.seats can)

  machine_next : IsMachineOf (state_of t (log ++ done ∷ []) next after) (after_event h w e)
  machine_next = record {
    step = ap (λ k. k + 1) run.machine.step ∙ sym one;
    memory = ap (λ (m : Memory). stored m e) run.machine.memory ∙ sym did.memory;
    seats = moved_all h w e seats after run.machine.seats did.len moved_on;
  }

  of_cores : AreOfCores h (front ++ e ∷ [])
  of_cores = subst (AreOfCores h) more (All-take (λ x. core_of x < h.cores) (length log + 1) t.events (all_of_cores t limits))

  allowed : IsAllowed h log done
  allowed =
      let at : slice_get (run_of h (front ++ e ∷ [])) (length log) ≡ Some done =
      subst (λ l. slice_get l (length log) ≡ Some done) run_next (get-last log done) in
      let before : take (length log) (run_of h (front ++ e ∷ [])) ≡ log =
      subst (λ l. take (length log) l ≡ log) run_next (take_at log (done ∷ []) (length log) refl) in
      subst (λ l. IsAllowed h l done) before (laws.allowed h (front ++ e ∷ []) of_cores (length log) done at)

  kept : IsRun (state_of t (log ++ done ∷ []) next after)
  kept = record {
    within = (let l = did.lt in rw one (omega (arith, l)));
    log_is = rw (one, more) run_next;
    machine = rw (one, more) (subst (IsMachineOf (state_of t (log ++ done ∷ []) next after)) (sym (world_on h front e)) machine_next);
    texts = All-push (λ (s : Step). HasTextInRun s.answer) log done run.texts (did.text h w.cores run.machine.seats can);
  }

  pub goes : Goes t log next after (record { event = e; answer = a })
  goes = record { event = slice_get-get_or t.events (length log) e did.lt ∙ ap Some (sym did.at); allowed = allowed; kept = kept }

-- the same where the body names the parts by other, equal terms
pub goes_from : Laws → (t : Parts) (p : Held) (seats : List SeatState) (log : List Step) → IsTrace t → length seats ≡ t.header.cores
    → IsRun (state_of t log p seats)
    → (e : Event) (a : Option Answer) (next : Held) (after : List SeatState)
    → (k : ℕ) (t2 : Parts) (p2 : Held) (seats2 : List SeatState) → k ≡ length log → t2 ≡ t → p2 ≡ p → seats2 ≡ seats
    → Did t2 p2 seats2 k e a next after → Goes t log next after (record { event = e; answer = a })
goes_from laws t p seats log limits count run e a next after k t2 p2 seats2 ek et ep es did =
    goes laws t p seats log limits count run e a next after
    (subst (λ x. Did t p x (length log) e a next after) es
    (subst (λ x. Did t x seats2 (length log) e a next after) ep
    (subst (λ x. Did x p2 seats2 (length log) e a next after) et
    (subst (λ x. Did t2 p2 seats2 x e a next after) ek did))))

-- A LOG THAT ISN'T KEPT

-- what a step ensures where the log is that of the events that were done
pub record Went (t : Parts) (k : ℕ) (next : Held) (after : List SeatState) (s : Step) : Type 0 where
  pub log : log_at t (k + 1) ≡ log_at t k ++ s ∷ []
  pub run : IsRun (state_of t (log_at t (k + 1)) next after)
  pub done : k + 1 ≡ length (log_at t (k + 1))

pub went : (t : Parts) (k : ℕ) (next : Held) (after : List SeatState) (s : Step) → k ≡ length (log_at t k) → Goes t (log_at t k) next after s
    → Went t k next after s
went t k next after s n g =
    let e : log_at t k ++ s ∷ [] ≡ log_at t (k + 1) =
    g.kept.log_is ∙ ap (log_at t) (length-append (log_at t k) (s ∷ []) ∙ ap (λ i. i + 1) (sym n)) in
    record {
      log = sym e;
      run = subst (λ (l : List Step). IsRun (state_of t l next after)) e g.kept;
      done = ap (λ i. i + 1) n ∙ sym (length-append (log_at t k) (s ∷ [])) ∙ ap length e;
    }
