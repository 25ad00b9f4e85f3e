-- A pull goes on by a read, and ends as `next` says.
use Rattle.amqp_stream.proofs
use Rattle.amqp_stream.specs
use proofs.Names.{◌≡◌, ◌≢◌, ℕ, ◌+◌, ◌-◌, ◌<◌, ◌≤◌, List, [], ◌++◌, length, drop, Option, Some, None, Result, Ok, Err, refl, sym, ap, subst, ◌∙◌, arith}
use proofs.Names.{append_assoc, append-nil, length-append, nil_from_length, Fault, past, fault, IsBytes, raw_of, scan, laid_out, FrameLayout, AMQPRawFrame}
use proofs.Names.{SourceFault, ReadError, Change, ◌⇒◌, Supply, Takes, read_fault, Holding, ReadsMore, Ends, LiesIn, IsBorrowed, HasNext}
use Rattle.std.specs.Prelude.{OnErr}
use specs.Reading.{idle_reads}
use proofs.Adding.{Takes-then, Rises-later, IsBytes-append}
use specs.declared.errors.ReadError.TheVariants as errors

-- What a pull keeps: what was taken so far. At most `idle` of its reads gave nothing.
pub record Pulled (m : ℕ) (old new : Supply) (budget_old budget : ℕ) (before b : List ℕ) (idle : ℕ) : Type 0 where
  pub taken : List ℕ
  pub are_bytes : IsBytes taken
  pub takes : Takes old new taken (budget_old - budget)
  pub all : b ≡ before ++ taken
  pub budget_falls : budget ≤ budget_old
  pub unread : budget ≡ budget_old → taken ≡ []
  pub decided : scan (Some m) before ≢ past → budget ≡ budget_old
  pub few : budget_old ≤ budget + length taken + idle

-- where more is needed, nothing before was decided
undecided : {m : ℕ} {a s : Supply} {budget_old budget : ℕ} {before b : List ℕ}
    → Pulled m a s budget_old budget before b 0 → scan (Some m) b ≡ past → scan (Some m) before ≢ past → ⊥
undecided {before = before} p more h =
    h (cc (p.unread (p.decided h), append-nil before))

-- one more read
pub Pulled-more : {m : ℕ} {a s t : Supply} {budget_old budget : ℕ} {before b c : List ℕ} {r : Result ℕ SourceFault} (idle : ℕ)
    → Pulled m a s budget_old budget before b 0 → 0 < budget → scan (Some m) b ≡ past → (read : ReadsMore (s ⇒ t) (b ⇒ c) r)
    → 1 ≤ length read.piece + idle → Pulled m a t budget_old (budget - 1) before c idle
Pulled-more {a = a} {t = t} {budget_old = budget_old} {budget = budget} {before = before} idle p some more read enough = record {
  taken = p.taken ++ read.piece;
  are_bytes = IsBytes-append p.taken read.piece p.are_bytes read.are_bytes;
  takes =
      subst (Takes a t (p.taken ++ read.piece)) {x = (budget_old - budget) + 1} (omega arith)
      (Takes-then _ _ _ _ _ _ _ p.takes read.takes);
  all = cc (append_assoc before p.taken read.piece);
  budget_falls = omega arith;
  unread = λ e. absurd (omega arith);
  decided = λ h. absurd (undecided p more h);
  few = omega (arith, length-append p.taken read.piece);
}

-- nothing was read: what is held stays, and is undecided still
pub still_more : (m : ℕ) {s t : Supply} {b c : List ℕ} {r : Result ℕ SourceFault} (h : ReadsMore (s ⇒ t) (b ⇒ c) r)
    → length h.piece ≡ 0 → scan (Some m) b ≡ past → scan (Some m) c ≡ past
still_more m {b = b} h e more = cc (nil_from_length h.piece e, append-nil b)

-- what is held after a read are bytes
read_bytes : {s t : Supply} {b c : List ℕ} {r : Result ℕ SourceFault} → ReadsMore (s ⇒ t) (b ⇒ c) r → IsBytes b → IsBytes c
read_bytes {b = b} read fits = subst IsBytes (sym read.held) (IsBytes-append b read.piece fits read.are_bytes)

on_err : {X : Type 0} {P : Type 0} (r : Result X ReadError) → P → OnErr r P
on_err (Ok x) p = tt
on_err (Err error) p = p

module _ {X : Type 0} (P : ℕ → List ℕ → List ℕ → X → Type 0) {supply : Change Supply} {budget : Change ℕ} {reader : Change Holding} where
  -- a call that ends so, and holds all bytes that it looked at
  pub pulls_to : (r : Result (Option X) ReadError) → reader.new.limit ≡ reader.old.limit
      → Pulled reader.old.limit supply.old supply.new budget.old budget.new reader.old.held reader.new.held (idle_reads r)
      → IsBytes reader.new.held → length reader.new.held ≤ reader.old.limit + 8
      → Ends P reader.old.limit reader.new.held supply budget.new reader.new.held r → HasNext P supply budget reader r
  pulls_to r same g fits room e = let kept : OnErr r (reader.new.held ≡ reader.new.held) = on_err r refl in search

  -- a fault that stands at the front of what is held
  pub ends_fault : (error : ReadError) (bad : Fault) → reader.new.limit ≡ reader.old.limit
      → Pulled reader.old.limit supply.old supply.new budget.old budget.new reader.old.held reader.new.held 0
      → IsBytes reader.new.held → length reader.new.held ≤ reader.old.limit + 8 → read_fault error ≡ Some bad
      → scan (Some reader.old.limit) reader.new.held ≡ fault bad → HasNext P supply budget reader (Err error)
  ends_fault error bad at g fits room same e =
      let none : idle_reads {X = X} (Err error) ≡ 0 = grind arith in
      pulls_to (Err error) at (rw none g) fits room (grind arith)

module _ {X : Type 0} (P : ℕ → List ℕ → List ℕ → X → Type 0) {supply : Change Supply} {s : Supply} {budget_old budget : ℕ} {reader : Change Holding}
    {b : List ℕ} (at : reader.new.limit ≡ reader.old.limit) (g : Pulled reader.old.limit supply.old s budget_old budget reader.old.held b 0)
    (fits : IsBytes b) (some : 0 < budget) (more : scan (Some reader.old.limit) b ≡ past) where
  -- a read that failed
  pub ends_unread : {f : SourceFault} → ReadsMore (s ⇒ supply.new) (b ⇒ reader.new.held) (Err f)
      → length reader.new.held ≤ reader.old.limit + 8 → HasNext P supply (budget_old ⇒ budget - 1) reader (Err errors.ReadFault)
  ends_unread read room =
      let rises = Rises-later _ _ _ g.takes.faults read.takes.faults read.err.1 in
      pulls_to P (Err errors.ReadFault) at (Pulled-more 1 g some more read (omega arith))
      (read_bytes read fits) room (still_more reader.old.limit read (ap length read.err.0) more, rises)

  -- the end of the source after some bytes
  pub ends_short : {n : ℕ} → n ≡ 0 → ReadsMore (s ⇒ supply.new) (b ⇒ reader.new.held) (Ok n)
      → length reader.new.held ≤ reader.old.limit + 8 → reader.new.held ≢ [] → HasNext P supply (budget_old ⇒ budget - 1) reader (Err errors.CutShort)
  ends_short zero read room long =
      pulls_to P (Err errors.CutShort) at (Pulled-more 1 g some more read (omega arith))
      (read_bytes read fits) room (still_more reader.old.limit read (read.ok ∙ zero) more, long, read.end zero)

-- What a call did that looked for a frame is said of one that has it so, and holds the rest.
next_as : {X Y : Type 0} {P : ℕ → List ℕ → List ℕ → X → Type 0} (Q : ℕ → List ℕ → List ℕ → Y → Type 0) {supply : Change Supply} {budget : Change ℕ}
    {old mid new : Holding} {r : Result (Option X) ReadError} (q : Result (Option Y) ReadError) (p : HasNext P supply budget (old ⇒ mid) r)
    → new.limit ≡ old.limit → Ends Q old.limit p.bytes supply budget.new new.held q → OnErr q (new.held ≡ p.bytes) → idle_reads q ≡ idle_reads r
    → HasNext Q supply budget (old ⇒ new) q
next_as Q q p limit ends kept idle = search arith

module _ {X Y : Type 0} (P : ℕ → List ℕ → List ℕ → X → Type 0) (Q : ℕ → List ℕ → List ℕ → Y → Type 0)
    {supply : Change Supply} {budget : Change ℕ} {reader : Change Holding} where
  -- an error says the same of every kind of frame
  pub err_as : (e : ReadError) → HasNext P supply budget reader (Err e) → HasNext Q supply budget reader (Err e)
  err_as e p = let so = by_error e p.ends in next_as Q (Err e) p p.limit so.0 p.kept so.1
    where
      by_error : (e : ReadError) → Ends P reader.old.limit p.bytes supply budget.new reader.new.held (Err e)
          → Ends Q reader.old.limit p.bytes supply budget.new reader.new.held (Err e) × (idle_reads {X = Y} (Err e) ≡ idle_reads {X = X} (Err e))
      by_error errors.CutShort h = (h, refl)
      by_error e h = (h, refl)

  -- so does the end of input
  pub none_as : HasNext P supply budget reader (Ok None) → HasNext Q supply budget reader (Ok None)
  none_as p = next_as Q (Ok None) p p.limit p.ends tt refl

-- the frame that lies in b is borrowed, and the rest is held
pub some_as : {supply : Change Supply} {budget : Change ℕ} {old mid new : Holding} (layout : FrameLayout) (raw : AMQPRawFrame)
    → HasNext LiesIn supply budget (old ⇒ mid) (Ok (Some layout)) → new.limit ≡ old.limit → raw_of raw ≡ laid_out layout mid.held
    → new.held ≡ drop layout.frame_len mid.held → HasNext IsBorrowed supply budget (old ⇒ new) (Ok (Some raw))
some_as layout raw p same e d =
    let all = p.ends.1 in
    next_as IsBorrowed (Ok (Some raw)) p same
    (layout.frame_len, cc (p.ends.0.found), cc) tt refl
