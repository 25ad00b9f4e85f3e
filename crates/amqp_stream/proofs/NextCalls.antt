-- What follows from a call of `next`, for its callers.
use Rattle.amqp_stream.proofs
use Rattle.amqp_stream.specs
use proofs.Names.{◌≡◌, ℕ, ◌+◌, ◌-◌, ◌*◌, ◌<◌, ◌≤◌, List, length, Option, Some, None, Result, Ok, Err, drop, refl, sym, ap, subst, ◌∙◌, inl, inr, arith}
use proofs.Names.{append-nil, cases_lt, drop_at, length-append, length-drop, Fault, past, fault, IsBytes, IsBytes-drop, raw_of, scan, scan-in_bounds, scan-none}
use proofs.Names.{scan-past_few, AMQPRawFrame, ReadError, Change, Supply, read_fault, Holding, Ends, IsBorrowed, HasNext}
use Rattle.std.proofs.Common.{IsErrAnd}
use Rattle.std.proofs.Math.Nat.{mul-le-mul_right}
use specs.Reading.{reading_left}

-- ---- what is held

-- What is held fits a buffer for the largest frame.
pub next_room : {supply : Change Supply} {budget : Change ℕ} {reader : Change Holding} (r : Result (Option AMQPRawFrame) ReadError)
    → HasNext IsBorrowed supply budget reader r → length reader.new.held ≤ reader.old.limit + 8
next_room (Ok (Some raw)) p = omega (arith, ap length p.ends.2, length-drop p.ends.0 p.bytes)
next_room (Ok None) p = omega (arith, ap length p.ends.1)
next_room (Err error) p = omega (arith, ap length p.kept)

-- Where more is needed, one byte more still fits it.
pub next_undecided_room : (reader : Change Holding) → scan (Some reader.old.limit) reader.new.held ≡ past → length reader.new.held ≤ reader.old.limit + 7
next_undecided_room reader more = omega (arith, scan-past_few reader.old.limit reader.new.held more)

module _ {X : Type 0} {P : ℕ → List ℕ → List ℕ → X → Type 0} {supply : Change Supply} {budget : Change ℕ} {reader : Change Holding}
    {r : Result (Option X) ReadError} (p : HasNext P supply budget reader r) where
  -- What was held is looked at alone, where nothing was read.
  alone : budget.new ≡ budget.old → p.bytes ≡ reader.old.held
  alone none = cc (p.unread none, append-nil reader.old.held)

  -- What was taken are bytes.
  pub next_bytes : IsBytes p.taken
  next_bytes =
      let held = reader.old.held in
      subst IsBytes (ap (drop (length held)) p.all ∙ drop_at held p.taken (length held) refl) (IsBytes-drop (length held) p.bytes p.are_bytes)

  -- Where bytes were taken, a read was made.
  pub next_some : 0 < length p.taken → budget.new < budget.old
  next_some some = grind arith

-- ---- a fault that is held

-- A fault that is held is returned again, and nothing changes.
pub record AnswersAgain (bad : Fault) (budget : Change ℕ) (reader : Change Holding) (result : Result (Option AMQPRawFrame) ReadError) : Type 0 where
  pub same : IsErrAnd result (λ error. read_fault error ≡ Some bad)
  pub held : reader.new.held ≡ reader.old.held
  pub budget_stays : budget.new ≡ budget.old

pub next_again : {supply : Change Supply} {budget : Change ℕ} {reader : Change Holding} (r : Result (Option AMQPRawFrame) ReadError) (bad : Fault)
    → HasNext IsBorrowed supply budget reader r → scan (Some reader.old.limit) reader.old.held ≡ fault bad → AnswersAgain bad budget reader r
next_again {reader = reader} (Ok (Some raw)) bad p e =
    let same = ap (scan (Some reader.old.limit)) (alone p (p.decided (λ more. absurd cc))) in
    absurd (let found = p.ends.1 in cc)
next_again {reader = reader} (Ok None) bad p e =
    let same = ap (scan (Some reader.old.limit)) (sym (alone p (p.decided (λ more. absurd cc))) ∙ p.ends.0) ∙ scan-none (Some reader.old.limit) in
    absurd cc
next_again {supply = supply} {budget = budget} {reader = reader} (Err error) bad p e =
    let none = p.decided (λ more. absurd cc) in
    record { same = by_error error (ap (scan (Some reader.old.limit)) (alone p none) ∙ e) p.ends; held = p.kept ∙ alone p none; budget_stays = none }
  where
    by_error : (error : ReadError) → scan (Some reader.old.limit) p.bytes ≡ fault bad
        → Ends IsBorrowed reader.old.limit p.bytes supply budget.new reader.new.held (Err error) → read_fault error ≡ Some bad
    by_error error found h = grind arith

-- ---- what a loop over `next` has left falls with each frame

-- by a read of the budget
falls : (m budget budget' h h' : ℕ) → budget' < budget → h' ≤ m + 8 → budget' * (m + 9) + h' < budget * (m + 9) + h
falls m budget budget' h h' less room =
    let one : (budget' + 1) * (m + 9) ≤ budget * (m + 9) = mul-le-mul_right (m + 9) (omega arith) in omega arith

-- by held bytes
shortens : (m budget budget' h h' : ℕ) → budget' ≤ budget → h' < h → budget' * (m + 9) + h' < budget * (m + 9) + h
shortens m budget budget' h h' same less =
    let all : budget' * (m + 9) ≤ budget * (m + 9) = mul-le-mul_right (m + 9) same in omega arith

pub next_falls : {supply : Change Supply} {budget : Change ℕ} {reader : Change Holding} {raw : AMQPRawFrame}
    → HasNext IsBorrowed supply budget reader (Ok (Some raw))
    → reading_left reader.old.limit budget.new reader.new.held < reading_left reader.old.limit budget.old reader.old.held
next_falls {budget = budget} {reader = reader} {raw = raw} p =
    let m = reader.old.limit in
    let bounds = scan-in_bounds (Some m) p.bytes (raw_of raw) p.ends.0 p.ends.1 in
    let left : length reader.new.held ≡ length p.bytes - p.ends.0 = ap length p.ends.2 ∙ length-drop p.ends.0 p.bytes in
    let long = ap length p.all ∙ length-append reader.old.held p.taken in
    elim (cases_lt budget.new budget.old) [
      | inl less ↦ falls m budget.old budget.new (length reader.old.held) (length reader.new.held) less (omega arith)
      | inr none ↦
          shortens m budget.old budget.new (length reader.old.held) (length reader.new.held) p.budget_falls
          (omega (arith, ap length (p.unread (omega (arith, none, p.budget_falls)))))
    ]
