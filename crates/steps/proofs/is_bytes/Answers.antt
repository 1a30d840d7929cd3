use Rattle.steps.proofs.is_bytes.Goals as goal

pub returns : goal.returns
returns c = λ i. (c.shared_slice_known-1.given i).fits
