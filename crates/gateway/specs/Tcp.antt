-- What shows of the adapter over std's network.
use Rattle.std.specs.Prelude.{ℕ, Option}
use Rattle.gateway.specs.declared.tcp.TcpGateway.{TcpGateway}
use Rattle.gateway.specs.declared.timed_source.TimedSource.{TimedSource}

-- how often a call of the source has failed
abbrev pub timed_faults : {R : Type 0} → TimedSource R → ℕ
timed_faults source = source.faults

-- the port that is listened to
abbrev pub gateway_port : {N L S : Type 0} → TcpGateway N L S → Option ℕ
gateway_port gateway = gateway.port

-- how often a call of `listen` or `accept` has failed
abbrev pub gateway_failures : {N L S : Type 0} → TcpGateway N L S → ℕ
gateway_failures gateway = gateway.failures

-- how often such a call has failed, or a connection came back with faults
abbrev pub gateway_faults : {N L S : Type 0} → TcpGateway N L S → ℕ
gateway_faults gateway = gateway.faults
