use Rattle.rpc_message.proofs.texts.initialize.Goals as goal

pub returns : goal.returns
returns c = simp (
  c.new.ensures,
  c.in_ok-extend_from_slice-6.ensures.items,
  c.in_ok-extend_from_slice-5.ensures.items,
  c.in_ok-extend_from_slice-4.ensures.items,
  c.in_ok-extend_from_slice-3.ensures.items,
  c.in_ok-extend_from_slice-2.ensures.items,
  c.in_ok-extend_from_slice.ensures.items,
  c.new-text.ensures.items,
  c.in_ok-add_optional.ensures,
  c.in_ok-add_optional-2.ensures,
  c.as_bytes.ensures.value,
  c.as_bytes-2.ensures.value,
  c.as_bytes-3.ensures.value,
  c.as_bytes-4.ensures.value,
)
