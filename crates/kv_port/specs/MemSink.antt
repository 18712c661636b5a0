-- What a sink in memory was made with.
use Rattle.std.specs.Prelude.{ℕ, List}
use Rattle.std.specs.declared.option.Option.{Option}
use Rattle.kv_port.specs.declared.mem_sink.MemSink.{MemSink}

-- the most bytes that it takes in all
abbrev pub limit_of : MemSink → Option ℕ
limit_of sink = sink.limit

-- the numbers of the writes that fail
abbrev pub failing_of : MemSink → List ℕ
failing_of sink = sink.failing
