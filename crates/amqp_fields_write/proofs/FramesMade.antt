-- What frames make, by the parts that are put.
use Rattle.amqp_fields_write.proofs
use Rattle.amqp_fields_write.specs
use proofs.Names.{◌≤◌, get_or, drop, Bor, ◌≡◌, ℕ, ◌+◌, ◌<◌, ◌^◌, ◌==◌, ◌&&◌, ◌++◌, true, List, ◌∷◌, length, Option, Some, Ok, sym, ap, ◌∙◌, arith, numbers}
use proofs.Names.{drop_all, drop_more, bytes2, number_bytes, protocol_byte, protocol_mark, slots_at, Slot, slots_of, Head, Node, version_slots, made_properties}
use proofs.Names.{made_slots, cut_long, given_bytes, given_length, [], Result, Err, refl, WriteError, at_head, made_frames, IsCounted}
use proofs.Names.meant
use proofs.Names.failures
use Rattle.std.specs.Prelude.{option_copied, option_map}
use specs.Made.{after, Made}
use specs.MadeFrames.{header_front, has_no_ids, made_header, made_method, made_version, nodes_in, made_frame}
use specs.Making.{Writes}

-- ---- what heads are made of

module _ (pool : List ℕ) (nodes own : List Node) (head_of : Head) (end : ℕ)
    (own_is : nodes_in nodes head_of ≡ Some own) (end_is : end ≡ head_of.first + head_of.nodes) where
  -- without a method id a content header is made of its front and its properties
  pub header_parts : head_of.method_id ≡ 0 → made_header pool nodes head_of ≡ after (Ok (header_front head_of)) (made_properties pool end own)
  unfolding made_header
  header_parts none =
      let holds : (head_of.method_id == 0) ≡ true = grind (numbers, none) in
      rw (holds, own_is, end_is)

  -- without a body size a known method is made of its ids and its fields
  pub method_parts : (slots : List meant.Slot) → slots_at head_of.class_id head_of.method_id ≡ Some slots → head_of.body_size ≡ 0
      → made_method pool nodes head_of
      ≡ after (Ok (number_bytes bytes2 head_of.class_id ++ number_bytes bytes2 head_of.method_id)) (made_slots pool end 0 slots own)
  unfolding made_method
  method_parts slots known none =
      let holds : (head_of.body_size == 0) ≡ true = grind (numbers, none) in
      rw (known, holds, own_is, end_is)

  -- without ids a protocol header on channel 0 is made of its mark and its numbers
  pub version_parts : has_no_ids head_of ≡ true → head_of.channel ≡ 0
      → made_version pool nodes head_of ≡ after (Ok (protocol_byte ∷ protocol_mark)) (made_slots pool end 0 version_slots own)
  unfolding made_version
  version_parts free none =
      let holds : (has_no_ids head_of && (head_of.channel == 0)) ≡ true = grind (numbers, free, none) in
      rw (holds, own_is, end_is)

-- the nodes that were found for a head are those that the list has for it
pub own_nodes : (nodes : List Node) (head_of : Head) (found : Option (Bor (List Node))) (own : Bor (List Node))
    → option_copied found ≡ nodes_in nodes head_of → found ≡ Some own → nodes_in nodes head_of ≡ Some own.now
own_nodes nodes head_of found own is h = sym is ∙ ap (λ o. option_copied o) h

-- the shapes that were found for a method are those of its fields
pub known_slots : (class id : ℕ) (found : Option (Bor (List Slot))) (shapes : Bor (List Slot))
    → option_map slots_of (option_copied found) ≡ slots_at class id → found ≡ Some shapes → slots_at class id ≡ Some (slots_of shapes.now)
known_slots class id found shapes is h = sym is ∙ ap (λ o. option_map slots_of (option_copied o)) h

-- ---- contents that are given as bytes

-- one node more is added up
pub given_next : (nodes : List Node) (k : ℕ) (other : Node) (count bytes more : ℕ) → k < length nodes
    → cut_long (given_length nodes) ≡ cut_long (count + given_length (drop k nodes)) → bytes ≡ given_bytes (get_or nodes k other)
    → more ≡ cut_long (count + bytes) → (more < 2 ^ 64) × (cut_long (given_length nodes) ≡ cut_long (more + given_length (drop (k + 1) nodes)))
unfolding given_length
given_next nodes k other count bytes more few so_far is adds =
    let next : given_length (drop k nodes) ≡ given_bytes (get_or nodes k other) + given_length (drop (k + 1) nodes) =
    ap given_length (drop_more nodes k other few) in
    let cut : more < 2 ^ 64 = grind (numbers, adds) in (
      cut,
      so_far ∙ ap (λ n. cut_long (count + n)) next
          ∙ cut_adds count bytes more (given_length (drop (k + 1) nodes)) (given_bytes (get_or nodes k other)) is adds,
    )
  where
    cut_adds : (count bytes more rest here : ℕ) → bytes ≡ here → more ≡ cut_long (count + bytes) → cut_long (count + (here + rest)) ≡ cut_long (more + rest)
    cut_adds count bytes more rest here is adds = grind numbers

-- where none is left, all of them were added up
pub given_none : (nodes : List Node) (k count : ℕ) → length nodes ≤ k → cut_long (given_length nodes) ≡ cut_long (count + given_length (drop k nodes))
    → count < 2 ^ 64 → count ≡ cut_long (given_length nodes)
unfolding given_length
given_none nodes k count gone so_far fits =
    let none : given_length (drop k nodes) ≡ 0 = ap given_length (drop_all k nodes gone) in
    cut_whole count (given_length (drop k nodes)) none fits ∙ sym so_far
  where
    cut_whole : (count rest : ℕ) → rest ≡ 0 → count < 2 ^ 64 → count ≡ cut_long (count + rest)
    cut_whole count rest none fits = grind numbers

-- ---- heads

small_after : (a b : Result (List ℕ) WriteError) (n : ℕ) → (a ≡ Err (failures.TooSmall n) → ⊥)
    → (b ≡ Err (failures.TooSmall n) → ⊥) → after a b ≡ Err (failures.TooSmall n) → ⊥
small_after (Ok a) (Ok b) n one two h = absurd cc
small_after (Ok a) (Err e) n one two h = two h
small_after (Err e) b n one two h = one h

pub never_at : (k : ℕ) (made : Made) (n : ℕ) → at_head k made ≡ Err (failures.TooSmall n) → ⊥
never_at k (Ok bytes) n h = absurd cc
never_at k (Err bad) n h = absurd cc

module _ (pool : List ℕ) (nodes : List Node) (m : ℕ) where
  pub first_made : (k : ℕ) (rest others : List Head) (head : Head) → rest ≡ head ∷ others
      → made_frames pool nodes m k rest ≡ after (at_head k (made_frame pool nodes m head)) (made_frames pool nodes m (k + 1) others)
  unfolding made_frames
  first_made k rest others head is = ap (made_frames pool nodes m k) is

  pub no_heads : (k : ℕ) (rest : List Head) → length rest ≡ 0 → made_frames pool nodes m k rest ≡ Ok []
  unfolding made_frames
  no_heads k [] none = refl
  no_heads k (head ∷ rest) none = absurd (omega (arith, none))

  -- a refusal of a frame is none of the buffer
  pub never_small : (k : ℕ) (heads : List Head) (n : ℕ) → made_frames pool nodes m k heads ≡ Err (failures.TooSmall n) → ⊥
  unfolding made_frames
  never_small k [] n h = absurd cc
  never_small k (head ∷ heads) n h =
      small_after (at_head k (made_frame pool nodes m head)) (made_frames pool nodes m (k + 1) heads) n
      (never_at k (made_frame pool nodes m head) n) (never_small (k + 1) heads n) h

-- what a head is made of
pub at_counted : {made : Made} {n : ℕ} (k : ℕ) → IsCounted made n → IsCounted (at_head k made) n
at_counted k h = record { bytes = h.bytes; is = ap (at_head k) h.is; count_is = h.count_is }

-- ---- what is returned

-- a refusal of heads leaves the buffer
pub refused : (made : Result (List ℕ) WriteError) (old : List ℕ) (error : WriteError)
    → ((n : ℕ) → made ≡ Err (failures.TooSmall n) → ⊥) → made ≡ Err error → Writes made old old (Err error)
refused made old (failures.Refused head place why) never h = (h, refl)
refused made old (failures.TooSmall n) never h = absurd (never n h)
