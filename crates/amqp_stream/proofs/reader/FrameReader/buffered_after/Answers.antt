-- `FrameReader::buffered_after`: clause `finds`.
use Rattle.amqp_stream.proofs
use proofs.Names.{◌≡◌, ℕ, ◌-◌, List, Some, Err, length, take, drop, refl, ap, take_rest, Fault, fault, scan, ReadError, read_fault, Finds}
use Rattle.amqp_stream.specs.declared.errors.ReadError.TheVariants as errors
use proofs.reader.FrameReader.buffered_after.Goals as goal

finds_fault : {m limit : ℕ} {own held : List ℕ} (passed : ℕ) (error : ReadError) {bad : Fault} → read_fault error ≡ Some bad → m ≡ limit → own ≡ held
    → scan (Some m) (take (length own - passed) (drop passed own)) ≡ fault bad → Finds limit (drop passed held) (Err error)
finds_fault {own = own} passed error {bad = bad} told same all found = (bad, told, cc (take_rest own passed))

pub returns-in-UnknownFrameType-clause-finds : goal.returns-in-UnknownFrameType-clause-finds
returns-in-UnknownFrameType-clause-finds c =
    finds_fault c.args.passed errors.UnknownFrameType refl (ap (λ h. h.limit) c.self.view_is) c.held.ensures.held c.in-UnknownFrameType.ensures.value

pub returns-in-BadProtocolHeader-clause-finds : goal.returns-in-BadProtocolHeader-clause-finds
returns-in-BadProtocolHeader-clause-finds c =
    finds_fault c.args.passed errors.BadProtocolHeader refl (ap (λ h. h.limit) c.self.view_is) c.held.ensures.held c.in-BadProtocolHeader.ensures.value

pub returns-in-TooLarge-clause-finds : goal.returns-in-TooLarge-clause-finds
returns-in-TooLarge-clause-finds c =
    finds_fault c.args.passed errors.TooLarge refl (ap (λ h. h.limit) c.self.view_is) c.held.ensures.held c.in-TooLarge.ensures.value

pub returns-in-BadFrameEnd-clause-finds : goal.returns-in-BadFrameEnd-clause-finds
returns-in-BadFrameEnd-clause-finds c =
    finds_fault c.args.passed errors.BadFrameEnd refl (ap (λ h. h.limit) c.self.view_is) c.held.ensures.held c.in-BadFrameEnd.ensures.value
