-- What the first bytes of an image tell of it, where they are more than the longest image has.
use Rattle.std.proofs.Common.{◌≡◌, ℕ, ◌+◌, ◌-◌, ◌*◌, ◌<◌, ◌≤◌, Bool, true, false, ◌||◌, cond, nat_eq, nat_lt, List, length, take, drop, slice_index, Option, Some, None, IsSomeAnd, refl, sym, ap, ◌∙◌, subst, inl, inr, arith}
use Rattle.std.proofs.lemmas.Bool.{cases_lt, le-ltb, ltb-false, ne_eqb, or_parts}
use Rattle.std.proofs.lemmas.List.{drop-take, take_all, length-take-le}
use Rattle.byteorder.specs.Endian.{little_number}
use Rattle.byteorder.specs.Numbers.{little_from-take}
use Rattle.heap_model.specs.declared.header.BadHeader.{BadHeader}
use Rattle.heap_model.specs.Image.{Image, image_of_bytes}
use Rattle.heap_model.specs.Header.{header_fault, has_fault, HasGoodHeader, is_old, most_superblocks, whole_words}
use Rattle.heap_model.specs.Geometry.{image_words, old_image_words, largest_capacity, largest_old_capacity, old_capacities_fit}
use Rattle.heap_model.proofs.HeaderLemmas.{no_fault}
use Rattle.heap_recover.specs.declared.answer.Recovered.{Recovered}
use Rattle.region_header.proofs.SameHeader.{SameHeader}
use Rattle.tool_ports.specs.Contents.{Contents, Holds, HoldsFirst, Lacks}
use Rattle.tool_ports.specs.declared.image_store.GetFault.{GetFault}
use Rattle.tool_ports.specs.declared.image_store.GetFault.TheVariants.{Absent as NoSuchImage, Failed as GetFailed, Memory as GetMemory}
use Rattle.tool_run.specs.declared.fault.Fault.{Fault}
use Rattle.tool_run.specs.declared.fault.Fault.TheVariants.{Malformed}
use Rattle.tool_run.specs.Calls.{get_limit}
use Rattle.tool_command.specs.Command.{Command, image_name}
use Rattle.tool_run.specs.Inside.{Refuses, fault_of_get}
use Rattle.tool_run.specs.Making.{fault_within, image_in, Shows, IsMalformed}
use Rattle.tool_run.specs.CommandUses.{GetsImage, kinds_checked}
use Rattle.tool_run.specs.Recovering.{IsGoodImage, IsRecoveredHeapOf, IsTextOf}
use Rattle.std.specs.BTreeMap.{BTreeMap}
use Rattle.heap_model.specs.Rest.{IsReady}
use Rattle.dict_model.specs.Links.{shards}
use Rattle.dictionary.specs.Reading.{AreMaps}
use Rattle.dictionary.proofs.SameLemmas.{maps_of_image}
use Rattle.image_run.proofs.RecoveredLemmas.{recovers_to}
use Rattle.image_run.proofs.TextLemmas.{reports}

-- as many first bytes under another name
pub first_limited : (contents : Contents) (name got : List ℕ) (most : ℕ) → most ≡ get_limit → HoldsFirst contents name most got
    → HoldsFirst contents name get_limit got
first_limited contents name got most is first = subst (λ (n : ℕ). HoldsFirst contents name n got) is first

-- the words in the first bytes are those of all
first_words : (bytes : List ℕ) → SameHeader (image_of_bytes (take get_limit bytes)) (image_of_bytes bytes)
first_words bytes i below =
    let whole : get_limit ≡ 8 * i + (get_limit - 8 * i) = omega arith in
    let front : drop (8 * i) (take get_limit bytes) ≡ take (get_limit - 8 * i) (drop (8 * i) bytes) =
    ap (λ n. drop (8 * i) (take n bytes)) whole ∙ drop-take (8 * i) (get_limit - 8 * i) bytes in
    ap (little_number 8) front ∙ little_from-take 0 8 (get_limit - 8 * i) (drop (8 * i) bytes) (omega arith)

-- a whole image of a version, with a capacity that it may have, is shorter than what is got at most
fits : (old : Bool) (capacity : ℕ) → capacity ≤ cond old largest_old_capacity largest_capacity
    → 8 * cond old (old_image_words capacity) (image_words capacity) < get_limit
fits true capacity small = omega (arith, small, old_capacities_fit)
fits false capacity small = omega (arith, small)

-- images with the same header that are too long have the same fault, which is found before their kinds are looked at
long_fault : (limit : Option ℕ) (m n : ℕ) (image other : Image) (wide : Bool) → SameHeader image other → get_limit ≤ m → get_limit ≤ n
    → (nat_eq (other 2) 0 || nat_lt (most_superblocks other) (other 2)) ≡ wide → header_fault limit m image ≡ header_fault limit n other
unfolding header_fault has_fault
long_fault limit m n image other true same long longer is =
    rw (same 0 (omega arith), same 1 (omega arith), same 2 (omega arith), le-ltb m 8512 (omega arith), le-ltb n 8512 (omega arith), is) refl
long_fault limit m n image other false same long longer is =
    let range = or_parts (nat_eq (other 2) 0) (nat_lt (most_superblocks other) (other 2)) is in
    let short = fits (is_old other) (other 2) (ltb-false (most_superblocks other) (other 2) range.1) in
    rw (
      same 0 (omega arith),
      same 1 (omega arith),
      same 2 (omega arith),
      le-ltb m 8512 (omega arith),
      le-ltb n 8512 (omega arith),
      is,
      ne_eqb m (8 * whole_words other) (λ e. omega (arith, short)),
      ne_eqb n (8 * whole_words other) (λ e. omega (arith, short)),
    ) refl

-- the first bytes have the fault that all have
first_fault : (limit : Option ℕ) (bytes : List ℕ) → fault_within limit (take get_limit bytes) ≡ fault_within limit bytes
first_fault limit bytes = elim (cases_lt (length bytes) get_limit) [
  | inl short ↦ ap (fault_within limit) (take_all get_limit bytes (omega arith))
  | inr long ↦
      long_fault limit (length (take get_limit bytes)) (length bytes) (image_of_bytes (take get_limit bytes)) (image_of_bytes bytes) _
      (first_words bytes)
      (omega (arith, length-take-le get_limit bytes long)) long refl
]

-- The bytes that a store gave are the first of those of an image which, where the store tells, is the one it has.
record IsGot (limit : Option ℕ) (contents : Contents) (name got : List ℕ) : Type 0 where
  bytes : List ℕ
  held : Holds contents name bytes
  fault_is : fault_within limit got ≡ fault_within limit bytes
  same : SameHeader (image_of_bytes got) (image_of_bytes bytes)

held_image : (image : Option (List ℕ)) (got : List ℕ) → IsSomeAnd image (λ held. got ≡ take get_limit held)
    → (bytes : List ℕ) × (image ≡ Some bytes) × (got ≡ take get_limit bytes)
held_image None got first = absurd first
held_image (Some bytes) got first = (bytes, refl, first)

got_image : (limit : Option ℕ) (contents : Contents) (name got : List ℕ) → HoldsFirst contents name get_limit got → IsGot limit contents name got
got_image limit None name got first = record { bytes = got; held = tt; fault_is = refl; same = λ i below. refl }
got_image limit (Some image_of) name got first =
    let at = held_image (image_of name) got first in
    record {
      bytes = at.0;
      held = at.1;
      fault_is = ap (fault_within limit) at.2 ∙ first_fault limit at.0;
      same = subst (λ (l : List ℕ). SameHeader (image_of_bytes l) (image_of_bytes at.0)) (sym at.2) (first_words at.0);
    }

-- the bytes that a store gave, where their header is good, are those of an image that it has, where it tells
short_whole : (bytes : List ℕ) → length (take get_limit bytes) < get_limit → length bytes ≤ get_limit
short_whole bytes short = elim (cases_lt (length bytes) get_limit) as (λ _. length bytes ≤ get_limit) [
  | inl below ↦ omega arith
  | inr long ↦ let cut = length-take-le get_limit bytes long in omega (arith, cut)
]

-- an image with a good header is shorter than what is got at most
good_short : (limit : Option ℕ) (bytes : ℕ) (image : Image) → HasGoodHeader limit bytes image → bytes < get_limit
good_short limit bytes image (inl old) = let long = old.length_is in let short = fits true (image 2) old.small in omega arith
good_short limit bytes image (inr (new, kinds)) = let long = new.length_is in let short = fits false (image 2) new.small in omega arith

pub whole_image : (limit : Option ℕ) (contents : Contents) (name got : List ℕ) → HoldsFirst contents name get_limit got
    → HasGoodHeader limit (length got) (image_of_bytes got)
    → IsGoodImage limit contents name got
whole_image limit None name got first good = record { is_there = tt; good = no_fault limit (length got) (image_of_bytes got) good }
whole_image limit (Some image_of) name got first good =
    let at = held_image (image_of name) got first in
    let cut : length (take get_limit at.0) < get_limit = subst (λ (l : List ℕ). length l < get_limit) at.2
    (good_short limit (length got) (image_of_bytes got) good) in
    let whole : got ≡ at.0 = at.2 ∙ take_all get_limit at.0 (short_whole at.0 cut) in
    record { is_there = at.1 ∙ ap (λ (l : List ℕ). Some l) (sym whole); good = no_fault limit (length got) (image_of_bytes got) good }

-- what the tool tells of a failed get
pub is_not_got : (contents : Contents) (name : List ℕ) (get_failed : Type 0) (cause : GetFault) (fault : Fault)
    → fault ≡ fault_of_get cause → (cause ≡ NoSuchImage → Lacks contents name) → (cause ≡ GetFailed → get_failed)
    → (command : Command) → GetsImage command → image_name command ≡ name → Refuses command contents get_failed fault
is_not_got contents name get_failed NoSuchImage fault is lacks failed command gets named =
    subst (λ (f : Fault). Refuses command contents get_failed f) (sym is) (gets, subst (λ (n : List ℕ). Lacks contents n) (sym named) (lacks refl))
is_not_got contents name get_failed GetFailed fault is lacks failed command gets named =
    subst (λ (f : Fault). Refuses command contents get_failed f) (sym is) (gets, failed refl)
is_not_got contents name get_failed GetMemory fault is lacks failed command gets named =
    subst (λ (f : Fault). Refuses command contents get_failed f) (sym is) tt

-- the report on an image that was recovered
pub shows : (contents : Contents) (name text : List ℕ) (maps : List (BTreeMap ℕ (List ℕ))) (with_map : Bool) (recovered : Recovered)
    → IsRecoveredHeapOf contents name recovered
    → IsReady recovered.heap.words recovered.heap.held → AreMaps (slice_index recovered.heap.words) shards maps
    → IsTextOf recovered maps false with_map text → Shows contents name with_map text
shows contents name text maps with_map recovered is ready are text_is =
    let to = recovers_to (image_in is.bytes) recovered is.is is.inside ready in
    let of_image = maps_of_image (image_in is.bytes) (slice_index recovered.heap.words) to maps are in
    record {
      bytes = is.bytes;
      is_there = is.is_there;
      good = is.good;
      inside = is.inside;
      report = reports (image_in is.bytes) recovered maps false with_map text is.is of_image text_is;
    }

-- the cause of a bad header, where a command gets the image
pub is_malformed : (limit : Option ℕ) (contents : Contents) (name got shown : List ℕ) (get_failed : Type 0) (cause : BadHeader) (fault : Fault)
    → fault ≡ Malformed cause
    → HoldsFirst contents name get_limit got → shown ≡ got → Some cause ≡ fault_within limit shown
    → (command : Command) → GetsImage command → kinds_checked command ≡ limit → image_name command ≡ name → Refuses command contents get_failed fault
is_malformed limit contents name got shown get_failed cause fault is first are at command gets checks named =
    let image : IsGot limit contents name got = got_image limit contents name got first in
    let bad : IsMalformed limit contents name cause = record {
      bytes = image.bytes;
      held = image.held;
      fault = sym image.fault_is ∙ ap (fault_within limit) (sym are) ∙ sym at;
    } in
    let here : IsMalformed (kinds_checked command) contents name cause = subst (λ l. IsMalformed l contents name cause) (sym checks) bad in
    subst (λ (f : Fault). Refuses command contents get_failed f) (sym is)
    (gets, subst (λ (n : List ℕ). IsMalformed (kinds_checked command) contents n cause) (sym named) here)
