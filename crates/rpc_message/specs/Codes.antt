-- The code's error codes, as those of the texts.
use Rattle.rpc_message.specs.declared.code.ErrorCode.{ErrorCode}
use Rattle.rpc_message.specs.declared.code.ErrorCode.TheVariants.{ParseError, InvalidRequest, MethodNotFound, InvalidParams, ServerNotInitialized, RequestCancelled, ContentModified, RequestFailed}
use Rattle.rpc_message.specs.Texts.{Code, parse_error, invalid_request, method_not_found, invalid_params, server_not_initialized, request_cancelled, content_modified, request_failed}

abbrev pub code_of : ErrorCode → Code
code_of ParseError = parse_error
code_of InvalidRequest = invalid_request
code_of MethodNotFound = method_not_found
code_of InvalidParams = invalid_params
code_of ServerNotInitialized = server_not_initialized
code_of RequestCancelled = request_cancelled
code_of ContentModified = content_modified
code_of RequestFailed = request_failed
