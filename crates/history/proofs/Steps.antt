-- Steps one after another: what is known of each where all of them answered.
use Rattle.std.proofs.Common.{◌≡◌, ℕ, true, false, Some, None, Ok, Err, Option, Result, refl, ap, arith}
use Rattle.std.specs.Option.{ok_or}
use Rattle.faults.specs.declared.WireFault.{WireFault}
use Rattle.faults.specs.declared.RingFault.{RingFault}
use Rattle.faults.specs.declared.GroupFault.{GroupFault}
use Rattle.faults.specs.declared.BatchFault.{BatchFault}
use Rattle.token.specs.Tokens.{then}
use Rattle.station.specs.Answers.{of_wire, of_ring, of_group, of_batch}

pub no_answer : {X T F : Type 0} {f : F} {x : T} → ◌≡◌ {A = Result T F} (Err f) (Ok x) → X
no_answer e = let z : ◌≡◌ {A = ℕ} 0 1 = cc in absurd (omega arith)

pub false_true : {X : Type 0} → false ≡ true → X
false_true p = let z : ◌≡◌ {A = ℕ} 0 1 = cc in absurd (omega arith)

pub same_some : {X : Type 0} (x y : X) → ◌≡◌ {A = Option X} (Some x) (Some y) → x ≡ y
same_some x y e = cc

pub none_some : {X Y : Type 0} {x : X} → ◌≡◌ {A = Option X} None (Some x) → Y
none_some e = let z : ◌≡◌ {A = ℕ} 0 1 = cc in absurd (omega arith)

pub then_ok : {T U F : Type 0} (r : Result T F) (f : T → Result U F) (v : U) → then r f ≡ Ok v → (x : T) × (r ≡ Ok x) × (f x ≡ Ok v)
then_ok (Ok x) f v e = (x, refl, e)
then_ok (Err g) f v e = no_answer e

pub wire_ok : {T : Type 0} (r : Result T WireFault) (x : T) → of_wire r ≡ Ok x → r ≡ Ok x
wire_ok (Ok y) x e = let z : y ≡ x = cc in ap (λ v. Ok v) z
wire_ok (Err f) x e = no_answer e

pub ring_ok : {T : Type 0} (r : Result T RingFault) (x : T) → of_ring r ≡ Ok x → r ≡ Ok x
ring_ok (Ok y) x e = let z : y ≡ x = cc in ap (λ v. Ok v) z
ring_ok (Err f) x e = no_answer e

pub group_ok : {T : Type 0} (r : Result T GroupFault) (x : T) → of_group r ≡ Ok x → r ≡ Ok x
group_ok (Ok y) x e = let z : y ≡ x = cc in ap (λ v. Ok v) z
group_ok (Err f) x e = no_answer e

pub batch_ok : {T : Type 0} (r : Result T BatchFault) (x : T) → of_batch r ≡ Ok x → r ≡ Ok x
batch_ok (Ok y) x e = let z : y ≡ x = cc in ap (λ v. Ok v) z
batch_ok (Err f) x e = no_answer e

pub some_ok : {T F : Type 0} (o : Option T) (f : F) (x : T) → ok_or o f ≡ Ok x → o ≡ Some x
some_ok (Some y) f x e = let z : y ≡ x = cc in ap (λ v. Some v) z
some_ok None f x e = no_answer e
