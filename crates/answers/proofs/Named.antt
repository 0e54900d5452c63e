-- The input of a name, which may be standard input.
use Rattle.std.proofs.Common.{◌≡◌, inl, inr, subst}
use Rattle.program_io.specs.Readings.{Reading, Reads}

-- an input that is open can't fail to be opened
pub Reads-opened : {I : Type 0} (gives : I → Reading → Type 0) (open_input : I) (reading : Reading) → Reads {S = I} (λ source input. input ≡ source) (λ source kind. ⊥) gives open_input reading → gives open_input reading
Reads-opened gives open_input reading (inl (input, is, given)) = subst (λ i. gives i reading) is given
Reads-opened gives open_input reading (inr (fault, (kind, cannot, told), e)) = absurd cannot
